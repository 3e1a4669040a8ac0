-- An ask, by its words.
use Rattle.std.specs.Prelude.{ℕ, ◌+◌, ◌*◌, ◌^◌, ◌==◌, List, [], ◌∷◌, length, Option, Some, None}
use Rattle.std.specs.Prelude.{option_map, bytes_eq, codes, if◌then◌else◌}
use Rattle.std.specs.Option.{option_map_or}
use Rattle.text_lines.specs.Words.{◌>>=◌, byte, first_word, words_after, cut_at}
use Rattle.text_lines.specs.Digits.{decimal, decimal_below}
use Rattle.text_lines.specs.Hexadecimal.{bytes_of}
use Rattle.nfqa_headers.specs.declared.params.Params.{Params}
use Rattle.nfqa_msgs.specs.Numbers.{command_bind, command_unbind, command_pf_bind}
use Rattle.nfqa_msgs.specs.Numbers.{command_pf_unbind, copy_none, copy_meta, copy_packet}
use Rattle.queue_core.specs.Numbers.{verdict_drop, verdict_accept, verdict_repeat, verdict_stop}
use Rattle.queue_core.specs.Numbers.{verdict_queue, bypass_bit, queue_number_place}
use Rattle.script_lines.specs.declared.template.OrThis.{OrThis}
use Rattle.script_lines.specs.declared.template.OrThis.TheVariants.{This, Number}
use Rattle.script_lines.specs.declared.template.Judgement.{Judgement}
use Rattle.script_lines.specs.declared.template.Template.{Template}
use Rattle.script_lines.specs.declared.template.Template.TheVariants.{Config, Verdict, Batch}
use Rattle.script_lines.specs.declared.template.Template.TheVariants.{Raw}
use Rattle.script_lines.specs.Numbers.{most_payload_bytes, most_raw_bytes}

-- ---- single words

-- a queue's number, or `this`
abbrev pub queue_of : List ℕ → Option (OrThis ℕ)
queue_of word =
    if bytes_eq word (codes "this") then Some This
    else option_map Number (decimal_below (2 ^ 16) word)

-- an id, or `this`
abbrev pub id_of : List ℕ → Option (OrThis ℕ)
id_of word =
    if bytes_eq word (codes "this") then Some This
    else option_map Number (decimal word)

-- the verdict that hands a packet on to this queue
abbrev pub to_queue : ℕ → ℕ
to_queue queue = queue * queue_number_place + verdict_queue

-- `N` or `N:bypass`
unfoldable pub queue_verdict : List ℕ → Option ℕ
queue_verdict word = option_map_or (λ parts.
    if bytes_eq parts.1 (codes "bypass")
    then option_map (λ queue. to_queue queue + bypass_bit) (decimal_below (2 ^ 16) parts.0)
    else None) (cut_at (byte ":") word) (option_map to_queue (decimal_below (2 ^ 16) word))

-- `queue:N`, `queue:N:bypass`, or a number
unfoldable pub numbered_verdict : List ℕ → Option ℕ
numbered_verdict word = option_map_or (λ parts.
    if bytes_eq parts.0 (codes "queue") then queue_verdict parts.1 else None)
    (cut_at (byte ":") word) (decimal word)

unfoldable pub verdict_word : List ℕ → Option ℕ
verdict_word word =
    if bytes_eq word (codes "drop") then Some verdict_drop
    else if bytes_eq word (codes "accept") then Some verdict_accept
    else if bytes_eq word (codes "repeat") then Some verdict_repeat
    else if bytes_eq word (codes "stop") then Some verdict_stop
    else numbered_verdict word

-- the command that a word names
unfoldable pub command_named : List ℕ → Option ℕ
command_named word =
    if bytes_eq word (codes "bind") then Some command_bind
    else if bytes_eq word (codes "unbind") then Some command_unbind
    else if bytes_eq word (codes "pfbind") then Some command_pf_bind
    else if bytes_eq word (codes "pfunbind") then Some command_pf_unbind
    else None

-- a copy mode by its name or its number
unfoldable pub mode_of : List ℕ → Option ℕ
mode_of word =
    if bytes_eq word (codes "none") then Some copy_none
    else if bytes_eq word (codes "meta") then Some copy_meta
    else if bytes_eq word (codes "packet") then Some copy_packet
    else decimal_below (2 ^ 8) word

-- ---- parts of a line, and the words after them

-- `[NAME VALUE]`, with what reads the value
unfoldable pub value_part : {V : Type 0} → (List ℕ → Option V) → List ℕ → List (List ℕ) →
    Option (Option V × List (List ℕ))
value_part read name words = option_map_or (λ rest. do
  word ← first_word rest
  value ← read word.0
  Some (Some value, word.1)) (words_after name words) (Some (None, words))

-- `[NAME N]`
abbrev pub number_part : List ℕ → List (List ℕ) → Option (Option ℕ × List (List ℕ))
number_part name words = value_part decimal name words

-- `[payload BYTES]`
abbrev pub payload_part : List (List ℕ) → Option (Option (List ℕ) × List (List ℕ))
payload_part words = value_part (bytes_of most_payload_bytes) (codes "payload") words

-- `[bind | unbind | pfbind | pfunbind | cmd N]`
unfoldable pub command_part : List (List ℕ) → Option (Option ℕ × List (List ℕ))
command_part [] = Some (None, [])
command_part (word ∷ rest) =
    if bytes_eq word (codes "cmd") then (do
      value ← first_word rest
      number ← decimal_below (2 ^ 8) value.0
      Some (Some number, value.1))
    else Some (option_map_or (λ command. (Some command, rest)) (command_named word)
    (None, word ∷ rest))

-- `[params MODE RANGE]`
unfoldable pub params_part : List (List ℕ) → Option (Option Params × List (List ℕ))
params_part words = option_map_or (λ rest. do
  mode ← first_word rest
  mode_number ← mode_of mode.0
  range ← first_word mode.1
  number ← decimal range.0
  Some (Some (record { range = number; mode = mode_number }), range.1))
    (words_after (codes "params") words) (Some (None, words))

-- `Q VERDICT ID [mark N]`, without a priority
unfoldable pub judged : List (List ℕ) → Option (Judgement × List (List ℕ))
judged words = do
  first ← first_word words
  queue ← queue_of first.0
  second ← first_word first.1
  verdict ← verdict_word second.0
  third ← first_word second.1
  id ← id_of third.0
  mark ← number_part (codes "mark") third.1
  Some (
    record {
      queue = queue;
      verdict = verdict;
      id = id;
      mark = mark.0;
      priority = None;
    },
    mark.1,
  )

-- the same with the priority of `[priority N]`, which ends the line
unfoldable pub with_priority : Judgement → List (List ℕ) → Option Judgement
with_priority j words = do
  priority ← number_part (codes "priority") words
  if length priority.1 == 0
      then Some (record {
        queue = j.queue;
        verdict = j.verdict;
        id = j.id;
        mark = j.mark;
        priority = priority.0;
      }) else None

-- the word of a line that has just one
abbrev pub only_word : List (List ℕ) → Option (List ℕ)
only_word words = do
  word ← first_word words
  if length word.1 == 0 then Some word.0 else None

-- ---- asks

-- `Q [COMMAND] [params MODE RANGE] [maxlen N] [flags N] [mask N]`
unfoldable pub config_of : List (List ℕ) → Option Template
config_of words = do
  first ← first_word words
  queue ← queue_of first.0
  command ← command_part first.1
  params ← params_part command.1
  maxlen ← number_part (codes "maxlen") params.1
  flags ← number_part (codes "flags") maxlen.1
  mask ← number_part (codes "mask") flags.1
  if length mask.1 == 0
      then Some (Config queue (record {
        command = command.0;
        params = params.0;
        maxlen = maxlen.0;
        flags = flags.0;
        mask = mask.0;
      })) else None

-- `Q VERDICT ID [mark N] [payload BYTES] [priority N]`
unfoldable pub verdict_of : List (List ℕ) → Option Template
verdict_of words = do
  j ← judged words
  payload ← payload_part j.1
  judgement ← with_priority j.0 payload.1
  Some (Verdict judgement payload.0)

-- `Q VERDICT MAX [mark N] [priority N]`
unfoldable pub batch_of : List (List ℕ) → Option Template
batch_of words = do
  j ← judged words
  judgement ← with_priority j.0 j.1
  Some (Batch judgement)

-- `BYTES`, one or more
unfoldable pub raw_of : List (List ℕ) → Option Template
raw_of words = do
  word ← only_word words
  bytes ← bytes_of most_raw_bytes word
  if length bytes == 0 then None else Some (Raw bytes)

-- an ask by its first word, and the words after it
unfoldable pub ask_of : List (List ℕ) → Option Template
ask_of words = do
  word ← first_word words
  if bytes_eq word.0 (codes "config") then config_of word.1
      else if bytes_eq word.0 (codes "verdict") then verdict_of word.1
      else if bytes_eq word.0 (codes "batch") then batch_of word.1
      else if bytes_eq word.0 (codes "raw") then raw_of word.1
      else None
