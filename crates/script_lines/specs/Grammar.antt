-- The grammar of a script's lines: what is written, production by production. It is this project's
-- own. The square brackets of these comments say that a part may be missing. Nothing here reads: a
-- production says which words stand for a value.
use Rattle.std.specs.Prelude.{◌≡◌, ℕ, ◌+◌, ◌*◌, ◌^◌, ◌<◌, ◌≤◌, ◌⊎◌, IsTrue, List, [], ◌∷◌}
use Rattle.std.specs.Prelude.{◌++◌, length, Option, Some, None, codes}
use Rattle.std.specs.List.{list_all}
use Rattle.text_lines.specs.Words.{IsPassedOver, is_printable, words_of}
use Rattle.text_lines.specs.Numerals.{IsNumeral}
use Rattle.text_lines.specs.Hexadecimal.{IsSpelled}
use Rattle.nfqa_headers.specs.declared.params.Params.{Params}
use Rattle.nfqa_msgs.specs.Numbers.{command_bind, command_unbind, command_pf_bind}
use Rattle.nfqa_msgs.specs.Numbers.{command_pf_unbind, copy_none, copy_meta, copy_packet}
use Rattle.histories.specs.declared.log.AskWords.{AskWords}
use Rattle.queue_core.specs.Numbers.{verdict_drop, verdict_accept, verdict_repeat, verdict_stop}
use Rattle.queue_core.specs.Numbers.{verdict_queue, bypass_bit, queue_number_place}
use Rattle.script_lines.specs.declared.template.OrThis.{OrThis}
use Rattle.script_lines.specs.declared.template.OrThis.TheVariants.{This, Number}
use Rattle.script_lines.specs.declared.template.Settings.{Settings}
use Rattle.script_lines.specs.declared.template.Judgement.{Judgement}
use Rattle.script_lines.specs.declared.template.Template.{Template}
use Rattle.script_lines.specs.declared.template.Template.TheVariants as ask
use Rattle.script_lines.specs.declared.condition.Condition.{Condition}
use Rattle.script_lines.specs.declared.condition.Condition.TheVariants as test
use Rattle.script_lines.specs.declared.answering.OnLine.{OnLine}
use Rattle.script_lines.specs.declared.line.Line.{Line}
use Rattle.script_lines.specs.declared.line.Line.TheVariants as line
use Rattle.script_lines.specs.declared.line.BlockLine.TheVariants as block
use Rattle.script_lines.specs.Asking.{words_alone}
use Rattle.script_lines.specs.Numbers.{largest_mail, most_asks, most_payload_bytes, most_raw_bytes}

-- ---- single words

-- a number below a limit
abbrev pub IsBelow : ℕ → List ℕ → ℕ → Type 0
IsBelow limit word n = IsNumeral word n × (n < limit)

-- one of these names, each of which stands for a number
abbrev pub IsName : List (List ℕ × ℕ) → List ℕ → ℕ → Type 0
IsName [] word n = ⊥
IsName (entry ∷ entries) word n = ((word ≡ entry.0) × (n ≡ entry.1)) ⊎ IsName entries word n

-- a queue's number, or `this`
abbrev pub IsQueue : List ℕ → OrThis ℕ → Type 0
IsQueue word This = word ≡ codes "this"
IsQueue word (Number n) = IsBelow (2 ^ 16) word n

-- an id, or `this`
abbrev pub IsId : List ℕ → OrThis ℕ → Type 0
IsId word This = word ≡ codes "this"
IsId word (Number n) = IsNumeral word n

abbrev pub verdict_names : List (List ℕ × ℕ)
verdict_names =
    (codes "drop", verdict_drop) ∷ (codes "accept", verdict_accept)
    ∷ (codes "repeat", verdict_repeat) ∷ (codes "stop", verdict_stop) ∷ []

-- queue:N and queue:N:bypass
abbrev pub IsOnward : List ℕ → ℕ → Type 0
IsOnward word verdict =
    (number : List ℕ) × (queue : ℕ) × IsBelow (2 ^ 16) number queue
    × (((word ≡ codes "queue:" ++ number)
    × (verdict ≡ queue * queue_number_place + verdict_queue))
    ⊎ ((word ≡ codes "queue:" ++ (number ++ codes ":bypass"))
    × (verdict ≡ queue * queue_number_place + verdict_queue + bypass_bit)))

-- a verdict by its name, onward to a queue, or by its number
abbrev pub IsVerdict : List ℕ → ℕ → Type 0
IsVerdict word verdict =
    IsName verdict_names word verdict ⊎ (IsOnward word verdict ⊎ IsNumeral word verdict)

abbrev pub mode_names : List (List ℕ × ℕ)
mode_names =
    (codes "none", copy_none) ∷ (codes "meta", copy_meta) ∷ (codes "packet", copy_packet) ∷ []

-- a copy mode by its name or its number
abbrev pub IsMode : List ℕ → ℕ → Type 0
IsMode word mode = IsName mode_names word mode ⊎ IsBelow (2 ^ 8) word mode

abbrev pub command_names : List (List ℕ × ℕ)
command_names =
    (codes "bind", command_bind) ∷ (codes "unbind", command_unbind)
    ∷ (codes "pfbind", command_pf_bind) ∷ (codes "pfunbind", command_pf_unbind) ∷ []

-- ---- parts of an ask

-- [NAME VALUE], with the production of the value
abbrev pub IsValuePart : {V : Type 0} → (List ℕ → V → Type 0) → List ℕ → List (List ℕ) →
    Option V → Type 0
IsValuePart Is name words None = words ≡ []
IsValuePart Is name words (Some value) =
    (word : List ℕ) × Is word value × (words ≡ name ∷ word ∷ [])

-- [NAME N]
abbrev pub IsNumberPart : List ℕ → List (List ℕ) → Option ℕ → Type 0
IsNumberPart name words number = IsValuePart IsNumeral name words number

-- [payload BYTES]
abbrev pub IsPayloadPart : List (List ℕ) → Option (List ℕ) → Type 0
IsPayloadPart words payload =
    IsValuePart (IsSpelled most_payload_bytes) (codes "payload") words payload

-- [bind | unbind | pfbind | pfunbind | cmd N]
abbrev pub IsCommandPart : List (List ℕ) → Option ℕ → Type 0
IsCommandPart words None = words ≡ []
IsCommandPart words (Some command) =
    ((name : List ℕ) × IsName command_names name command × (words ≡ name ∷ []))
    ⊎ ((number : List ℕ) × IsBelow (2 ^ 8) number command × (words ≡ codes "cmd" ∷ number ∷ []))

-- [params MODE RANGE]
abbrev pub IsParamsPart : List (List ℕ) → Option Params → Type 0
IsParamsPart words None = words ≡ []
IsParamsPart words (Some params) =
    (mode : List ℕ) × (range : List ℕ) × IsMode mode params.mode × IsNumeral range params.range
    × (words ≡ codes "params" ∷ mode ∷ range ∷ [])

-- Q VERDICT ID [mark N] [payload BYTES] [priority N]
pub record IsJudgement (words : List (List ℕ)) (j : Judgement) (bytes : Option (List ℕ)) :
    Type 0 where
  pub queue : List ℕ
  pub verdict : List ℕ
  pub id : List ℕ
  pub mark : List (List ℕ)
  pub payload : List (List ℕ)
  pub priority : List (List ℕ)
  pub queue_is : IsQueue queue j.queue
  pub verdict_is : IsVerdict verdict j.verdict
  pub id_is : IsId id j.id
  pub mark_is : IsNumberPart (codes "mark") mark j.mark
  pub payload_is : IsPayloadPart payload bytes
  pub priority_is : IsNumberPart (codes "priority") priority j.priority
  pub words_are : words ≡ queue ∷ verdict ∷ id ∷ (mark ++ (payload ++ priority))

-- Q [COMMAND] [params MODE RANGE] [maxlen N] [flags N] [mask N]
pub record IsConfig (words : List (List ℕ)) (queue : OrThis ℕ) (s : Settings) : Type 0 where
  pub queue_word : List ℕ
  pub command : List (List ℕ)
  pub params : List (List ℕ)
  pub maxlen : List (List ℕ)
  pub flags : List (List ℕ)
  pub mask : List (List ℕ)
  pub queue_is : IsQueue queue_word queue
  pub command_is : IsCommandPart command s.command
  pub params_are : IsParamsPart params s.params
  pub maxlen_is : IsNumberPart (codes "maxlen") maxlen s.maxlen
  pub flags_are : IsNumberPart (codes "flags") flags s.flags
  pub mask_is : IsNumberPart (codes "mask") mask s.mask
  pub words_are : words ≡ queue_word ∷ (command ++ (params ++ (maxlen ++ (flags ++ mask))))

-- config ..; verdict ..; batch .., which has no payload; raw BYTES, one byte or more
abbrev pub IsAsk : List (List ℕ) → Template → Type 0
IsAsk words (ask.Config queue settings) =
    (rest : List (List ℕ)) × IsConfig rest queue settings × (words ≡ codes "config" ∷ rest)
IsAsk words (ask.Verdict judgement payload) =
    (rest : List (List ℕ)) × IsJudgement rest judgement payload
    × (words ≡ codes "verdict" ∷ rest)
IsAsk words (ask.Batch judgement) =
    (rest : List (List ℕ)) × IsJudgement rest judgement None × (words ≡ codes "batch" ∷ rest)
IsAsk words (ask.Raw bytes) =
    (word : List ℕ) × IsSpelled most_raw_bytes word bytes × (1 ≤ length bytes)
    × (words ≡ codes "raw" ∷ word ∷ [])

-- an ask that doesn't say `this`
abbrev pub IsAskAlone : List (List ℕ) → AskWords → Type 0
IsAskAlone words asked = (ask : Template) × IsAsk words ask × (words_alone ask ≡ Some asked)

-- ---- an `on` line

-- any; id N; queue N; mark VALUE/MASK; proto N; every N, at least 1; longer N;
-- priority N
abbrev pub IsCondition : List (List ℕ) → Condition → Type 0
IsCondition words test.Any = words ≡ codes "any" ∷ []
IsCondition words (test.Id n) =
    (word : List ℕ) × IsNumeral word n × (words ≡ codes "id" ∷ word ∷ [])
IsCondition words (test.Queue n) =
    (word : List ℕ) × IsBelow (2 ^ 16) word n × (words ≡ codes "queue" ∷ word ∷ [])
IsCondition words (test.Mark value mask) =
    (first : List ℕ) × (second : List ℕ) × IsNumeral first value × IsNumeral second mask
    × (words ≡ codes "mark" ∷ (first ++ (codes "/" ++ second)) ∷ [])
IsCondition words (test.Protocol n) =
    (word : List ℕ) × IsBelow (2 ^ 8) word n × (words ≡ codes "proto" ∷ word ∷ [])
IsCondition words (test.Every n) =
    (word : List ℕ) × IsNumeral word n × (1 ≤ n) × (words ≡ codes "every" ∷ word ∷ [])
IsCondition words (test.Longer n) =
    (word : List ℕ) × IsNumeral word n × (words ≡ codes "longer" ∷ word ∷ [])
IsCondition words (test.Priority n) =
    (word : List ℕ) × IsNumeral word n × (words ≡ codes "priority" ∷ word ∷ [])

-- parts with this word between them, one or more
abbrev pub AreParts : {A : Type 0} → (List (List ℕ) → A → Type 0) → List ℕ → List (List ℕ) →
    List A → Type 0
AreParts Is mark words [] = ⊥
AreParts Is mark words (x ∷ []) = Is words x
AreParts Is mark words (x ∷ y ∷ more) =
    (front : List (List ℕ)) × (rest : List (List ℕ)) × Is front x
    × AreParts Is mark rest (y ∷ more) × (words ≡ front ++ mark ∷ rest)

-- CONDITION [and CONDITION].. do ASK [; ASK].., with not too many asks
pub record IsOn (words : List (List ℕ)) (on : OnLine) : Type 0 where
  pub conditions : List (List ℕ)
  pub asks : List (List ℕ)
  pub conditions_are : AreParts IsCondition (codes "and") conditions on.conditions
  pub asks_are : AreParts IsAsk (codes ";") asks on.asks
  pub few_asks : length on.asks ≤ most_asks
  pub words_are : words ≡ conditions ++ codes "do" ∷ asks

-- ---- lines

-- NAME N
abbrev pub IsNumberLine : List ℕ → List (List ℕ) → ℕ → Type 0
IsNumberLine name words n = (number : List ℕ) × IsNumeral number n × (words ≡ name ∷ number ∷ [])

-- An empty line or a comment; mail N; pace N; hashkey N; down DEVICE after N; port N; open ASK;
-- on ..; end ASK; end close.
abbrev pub IsForm : List (List ℕ) → Line → Type 0
IsForm words line.Nothing = IsPassedOver words
IsForm words (line.Mail n) =
    IsNumberLine (codes "mail") words n × (1 ≤ n) × (n ≤ largest_mail)
IsForm words (line.Pace n) = IsNumberLine (codes "pace") words n
IsForm words (line.Key n) = IsNumberLine (codes "hashkey") words n
IsForm words (line.Down d) =
    (device : List ℕ) × (after : List ℕ) × IsNumeral device d.device × IsNumeral after d.after
    × (words ≡ codes "down" ∷ device ∷ codes "after" ∷ after ∷ [])
IsForm words (line.Port n) = IsNumberLine (codes "port") words n × (1 ≤ n)
IsForm words (line.Inside (block.Open asked)) =
    (rest : List (List ℕ)) × IsAskAlone rest asked × (words ≡ codes "open" ∷ rest)
IsForm words (line.Inside (block.On on)) =
    (rest : List (List ℕ)) × IsOn rest on × (words ≡ codes "on" ∷ rest)
IsForm words (line.Inside (block.End asked)) =
    (rest : List (List ℕ)) × IsAskAlone rest asked × (words ≡ codes "end" ∷ rest)
IsForm words (line.Inside block.Close) = words ≡ codes "end" ∷ codes "close" ∷ []

-- a line of printable bytes and tabs, whose words have this form
abbrev pub Says : List ℕ → Line → Type 0
Says text line = IsTrue (list_all is_printable text) × IsForm (words_of text) line
