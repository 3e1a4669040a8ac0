-- How a journal's line is read: field by field from its front, each up to the next blank, and the
-- last one to the line's end. Most definitions here are what one function of the reader answers.
use Rattle.std.specs.Prelude.{ℕ, ◌^◌, ◌==◌, Bool, true, false, List, length, Option, Some}
use Rattle.std.specs.Prelude.{None, option_map, bytes_eq, codes, if◌then◌else◌, ◌≡◌, IfOk, Result}
use Rattle.std.specs.Borrow.{Bor}
use Rattle.std.specs.Option.{option_map_or}
use Rattle.text_lines.specs.Words.{◌>>=◌, byte, cut_at}
use Rattle.text_lines.specs.Digits.{decimal, decimal_below}
use Rattle.text_lines.specs.Hexadecimal.{bytes_of}
use Rattle.packet_entry.specs.declared.packet.Card.{Card}
use Rattle.nfqa_headers.specs.declared.params.Params.{Params}
use Rattle.nfqa_headers.specs.declared.verdict_header.Head.{Head}
use Rattle.nfqa_msgs.specs.declared.request.Request.{Request}
use Rattle.nfqa_msgs.specs.declared.request.Request.TheVariants.{Config, Verdict, Batch}
use Rattle.queue_core.specs.declared.offers.Outcome.{Outcome}
use Rattle.queue_core.specs.declared.offers.Outcome.TheVariants.{Taken, Overflow, OverflowOpen}
use Rattle.queue_core.specs.declared.offers.Outcome.TheVariants.{UserFull, UserFullOpen, NoQueue}
use Rattle.queue_core.specs.declared.offers.Outcome.TheVariants.{Bypassed, CopyNone, Loop}
use Rattle.queue_core.specs.declared.event.Event.TheVariants.{Arrive, Ask, PortClosed, DeviceDown}
use Rattle.queue_core.specs.declared.event.Reply.TheVariants.{Arrived, Answer, Flushed}
use Rattle.histories.specs.declared.entry.Entry.{Entry}
use Rattle.histories.specs.declared.log.Did.{Did}
use Rattle.histories.specs.declared.log.Did.TheVariants.{Received, Sent, Closed}
use Rattle.histories.specs.declared.log.AskWords.{AskWords}
use Rattle.histories.specs.declared.log.AskWords.TheVariants.{Plain, Raw}
use Rattle.journal_reading.specs.declared.line.Line.{Line}
use Rattle.journal_reading.specs.declared.line.Line.TheVariants.{Heading, EntryLine, PortLine}
use Rattle.journal_reading.specs.declared.line.Line.TheVariants.{DidLine}
use Rattle.journal_reading.specs.declared.line.Line.TheVariants.{End}
use Rattle.histories.specs.Happenings.{queue_of}
use Rattle.journals.specs.declared.version.Version.{Version}
use Rattle.journals.specs.declared.version.Version.TheVariants.{First, Second}
use Rattle.journals.specs.Format.{title}

-- ---- fields in general: what is read, and the text behind it

-- what a reader that may run out of memory answers: this, and the text behind it
abbrev pub Reads : {A E : Type 0} → Result (Option (A × Bor (List ℕ))) E → Option (A × List ℕ) →
    Type 0
Reads result asked = IfOk result (λ read. option_map (λ x. (x.0, x.1.now)) read ≡ asked)

-- a word and the blank behind it
abbrev pub field : {A : Type 0} → (List ℕ → Option A) → List ℕ → Option (A × List ℕ)
field word text = do
  parts ← cut_at (byte " ") text
  x ← word parts.0
  Some (x, parts.1)

-- one after the other
abbrev pub both : {A B : Type 0} → (List ℕ → Option (A × List ℕ)) →
    (List ℕ → Option (B × List ℕ)) → List ℕ → Option ((A × B) × List ℕ)
both first second text = do
  x ← first text
  y ← second x.1
  Some ((x.0, y.0), y.1)

-- fields, and then the last word of a line
abbrev pub last : {A B : Type 0} → (List ℕ → Option (A × List ℕ)) → (List ℕ → Option B) →
    List ℕ → Option (A × B)
last first word text = do
  x ← first text
  y ← word x.1
  Some (x.0, y)

-- what fields make
abbrev pub made : {A B : Type 0} → (A → B) → (List ℕ → Option (A × List ℕ)) → List ℕ →
    Option (B × List ℕ)
made make read text = option_map (λ x. (make x.0, x.1)) (read text)

-- the text behind this word
abbrev pub behind : List ℕ → List ℕ → Option (List ℕ)
behind word text = do
  parts ← cut_at (byte " ") text
  if bytes_eq parts.0 word then Some parts.1 else None

-- a field that may be missing, behind its name
abbrev pub part : {A : Type 0} → List ℕ → (List ℕ → Option (A × List ℕ)) → List ℕ →
    Option (Option A × List ℕ)
part name read text =
    option_map_or (λ rest. option_map (λ x. (Some x.0, x.1)) (read rest)) (behind name text)
    (Some (None, text))

-- ---- words

abbrev pub half : List ℕ → Option ℕ
half word = decimal_below (2 ^ 16) word

abbrev pub small : List ℕ → Option ℕ
small word = decimal_below (2 ^ 8) word

abbrev pub bytes_in : List ℕ → Option (List ℕ)
bytes_in word = bytes_of (length word) word

abbrev pub yes_no_in : List ℕ → Option Bool
yes_no_in word =
    if bytes_eq word (codes "y") then Some true
    else if bytes_eq word (codes "n") then Some false
    else None

-- an outcome with an id
unfoldable pub numbered : List ℕ → List ℕ → Option Outcome
numbered name number =
    if bytes_eq name (codes "taken") then option_map Taken (decimal number)
    else if bytes_eq name (codes "userfull") then option_map UserFull (decimal number)
    else if bytes_eq name (codes "userfull-open") then option_map UserFullOpen (decimal number)
    else None

-- an outcome without one
unfoldable pub bare : List ℕ → Option Outcome
bare word =
    if bytes_eq word (codes "overflow") then Some Overflow
    else if bytes_eq word (codes "overflow-open") then Some OverflowOpen
    else if bytes_eq word (codes "noqueue") then Some NoQueue
    else if bytes_eq word (codes "bypassed") then Some Bypassed
    else if bytes_eq word (codes "copynone") then Some CopyNone
    else if bytes_eq word (codes "loop") then Some Loop
    else None

unfoldable pub outcome_in : List ℕ → Option Outcome
outcome_in word =
    option_map_or (λ parts. numbered parts.0 parts.1) (cut_at (byte ":") word) (bare word)

-- the errno of an acknowledgement, or `-`
abbrev pub answer_in : List ℕ → Option (Option ℕ)
answer_in word =
    if bytes_eq word (codes "-") then Some None else option_map (λ n. Some n) (half word)

-- `= ANSWER`
abbrev pub said_in : List ℕ → Option (Option ℕ)
said_in text = behind (codes "=") text >>= answer_in

-- ---- cards

unfoldable pub journey_in : List ℕ → Option (((ℕ × ℕ) × ℕ) × List ℕ)
journey_in = both (both (field decimal) (field decimal)) (field half)

-- a packet's priority; version 1 has none
abbrev pub priority_in : Version → List ℕ → Option (ℕ × List ℕ)
priority_in First text = Some (0, text)
priority_in Second text = field decimal text

unfoldable pub facts_in : Version → List ℕ →
    Option ((((ℕ × ℕ) × ℕ) × (ℕ × ℕ)) × List ℕ)
facts_in v = both (both (both (field decimal) (priority_in v)) (field decimal))
    (both (field decimal) (field half))

-- what an arrival's line says of the packet, of the bypass and of the room
abbrev pub card_made : ((((ℕ × ℕ) × ℕ) × (Bool × Bool)) × ((((ℕ × ℕ) × ℕ) × (ℕ × ℕ))
    × (List ℕ × List ℕ))) → (Card × (Bool × Bool))
card_made x = (
  record {
    number = (((x.0).0).0).0;
    visit = (((x.0).0).0).1;
    table = ((x.0).0).1;
    mark = ((((x.1).0).0).0).0;
    priority = ((((x.1).0).0).0).1;
    seconds = (((x.1).0).0).1;
    micros = (((x.1).0).1).0;
    protocol = (((x.1).0).1).1;
    link = ((x.1).1).0;
    bytes = ((x.1).1).1;
  },
  (x.0).1,
)

unfoldable pub card_in : Version → List ℕ → Option ((Card × (Bool × Bool)) × List ℕ)
card_in v = made card_made (both (both journey_in (both (field yes_no_in) (field yes_no_in)))
    (both (facts_in v) (both (field bytes_in) (field bytes_in))))

-- ---- requests

abbrev pub params_made : (ℕ × ℕ) → Params
params_made x = record { range = x.1; mode = x.0 }

abbrev pub head_made : (ℕ × ℕ) → Head
head_made x = record { verdict = x.0; id = x.1 }

unfoldable pub params_in : List ℕ → Option (Params × List ℕ)
params_in = made params_made (both (field small) (field decimal))

-- `-`, or a verdict and an id
unfoldable pub head_in : List ℕ → Option (Option Head × List ℕ)
head_in text =
    option_map_or (λ rest. Some (None, rest)) (behind (codes "-") text)
    (made (λ x. Some (head_made x)) (both (field decimal) (field decimal)) text)

abbrev pub config_made : (ℕ × (Option ℕ × (Option Params × (Option ℕ × (Option ℕ × Option ℕ)))))
    → Request
config_made x = Config x.0 (x.1).0 ((x.1).1).0 (((x.1).1).1).0 ((((x.1).1).1).1).0
    ((((x.1).1).1).1).1

unfoldable pub config_in : List ℕ → Option (Request × List ℕ)
config_in = made config_made (both (field half) (both (part (codes "cmd") (field small))
    (both (part (codes "params") params_in) (both (part (codes "maxlen") (field decimal))
    (both (part (codes "flags") (field decimal)) (part (codes "mask") (field decimal)))))))

-- the priority that a request sets; in version 1 none does
abbrev pub new_priority_in : Version → List ℕ → Option (Option ℕ × List ℕ)
new_priority_in First text = Some (None, text)
new_priority_in Second text = part (codes "priority") (field decimal) text

abbrev pub verdict_made : ((ℕ × Option Head) × (Option ℕ × (Option (List ℕ) × Option ℕ))) → Request
verdict_made x = Verdict (x.0).0 (x.0).1 (x.1).0 ((x.1).1).0 ((x.1).1).1

unfoldable pub verdict_in : Version → List ℕ → Option (Request × List ℕ)
verdict_in v = made verdict_made (both (both (field half) head_in)
    (both (part (codes "mark") (field decimal))
    (both (part (codes "payload") (field bytes_in)) (new_priority_in v))))

abbrev pub batch_made : ((ℕ × Option Head) × (Option ℕ × Option ℕ)) → Request
batch_made x = Batch (x.0).0 (x.0).1 (x.1).0 (x.1).1

unfoldable pub batch_in : Version → List ℕ → Option (Request × List ℕ)
batch_in v = made batch_made (both (both (field half) head_in)
    (both (part (codes "mark") (field decimal)) (new_priority_in v)))

unfoldable pub request_by : Version → List ℕ → List ℕ → Option (Request × List ℕ)
request_by v word rest =
    if bytes_eq word (codes "config") then config_in rest
    else if bytes_eq word (codes "verdict") then verdict_in v rest
    else if bytes_eq word (codes "batch") then batch_in v rest
    else None

unfoldable pub request_in : Version → List ℕ → Option (Request × List ℕ)
request_in v text = cut_at (byte " ") text >>= λ parts. request_by v parts.0 parts.1

-- a request, or the bytes of another message
unfoldable pub asked_in : Version → List ℕ → Option (AskWords × List ℕ)
asked_in v text =
    option_map_or (made Raw (field bytes_in)) (behind (codes "raw") text)
    (made Plain (request_in v) text)

-- ---- the lines by their first word

unfoldable pub arrival_in : Version → List ℕ → Option Entry
arrival_in v text =
    option_map (λ x. record {
      queue = (x.0).0;
      event = Arrive ((x.0).1).0 (((x.0).1).1).0 (((x.0).1).1).1;
      reply = Arrived x.1;
    }) (last (both (field half) (card_in v)) outcome_in text)

-- the entry of a request; none where it is of another queue
abbrev pub ask_made : (((ℕ × (ℕ × ℕ)) × Request) × (ℕ × ℕ)) → Option Entry
ask_made x =
    if queue_of (x.0).1 == ((x.0).0).0
    then Some (record {
      queue = ((x.0).0).0;
      event = Ask (((x.0).0).1).0 (((x.0).0).1).1 (x.0).1;
      reply = Answer (x.1).0 (x.1).1;
    })
    else None

-- `= ERRNO TAKEN`
abbrev pub answered_in : List ℕ → Option (ℕ × ℕ)
answered_in text = behind (codes "=") text >>= last (field half) decimal

unfoldable pub ask_in : Version → List ℕ → Option Entry
ask_in v text =
    last (both (both (field half) (both (field decimal) (field decimal))) (request_in v))
    answered_in text >>= ask_made

unfoldable pub port_closed_in : List ℕ → Option Entry
port_closed_in text =
    option_map (λ x. record { queue = (x.0).0; event = PortClosed (x.0).1; reply = Flushed x.1 })
    (last (both (field half) (field decimal)) decimal text)

unfoldable pub device_down_in : List ℕ → Option Entry
device_down_in text =
    option_map (λ x. record { queue = (x.0).0; event = DeviceDown (x.0).1; reply = Flushed x.1 })
    (last (both (field half) (field decimal)) decimal text)

unfoldable pub received_in : List ℕ → Option Did
received_in text =
    option_map (λ x. Received (x.0).0 (x.0).1 x.1)
    (last (both (field half) (field decimal)) decimal text)

unfoldable pub sent_in : Version → List ℕ → Option Did
sent_in v text =
    option_map (λ x. Sent (x.0).0 (x.0).1 x.1)
    (last (both (field decimal) (asked_in v)) said_in text)

unfoldable pub line_by : Version → List ℕ → List ℕ → Option Line
line_by v word rest =
    if bytes_eq word (codes "A") then option_map EntryLine (arrival_in v rest)
    else if bytes_eq word (codes "M") then option_map EntryLine (ask_in v rest)
    else if bytes_eq word (codes "C") then option_map EntryLine (port_closed_in rest)
    else if bytes_eq word (codes "D") then option_map EntryLine (device_down_in rest)
    else if bytes_eq word (codes "R") then option_map DidLine (received_in rest)
    else if bytes_eq word (codes "S") then option_map DidLine (sent_in v rest)
    else if bytes_eq word (codes "P") then option_map PortLine (decimal rest)
    else None

-- what a line says; none where it is no line of a journal
unfoldable pub line_in : Version → List ℕ → Option Line
line_in v line =
    if bytes_eq line (title v) then Some Heading
    else if bytes_eq line (codes "end") then Some End
    else if bytes_eq line (codes "X") then Some (DidLine Closed)
    else cut_at (byte " ") line >>= λ parts. line_by v parts.0 parts.1
