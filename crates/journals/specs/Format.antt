-- The journal's text in each version of its format: one line for each entry, and for each thing
-- that a port did. Words are separated by one blank, numbers are decimal, bytes are lower-case
-- hexadecimal, `-` for none. Version 1 tells no priorities.
use Rattle.std.specs.Prelude.{ℕ, List, [], ◌∷◌, ◌++◌, Option, Some, None, Bool, true, false, codes}
use Rattle.std.specs.Prelude.{decimal}
use Rattle.text_lines.specs.Hexadecimal.{hexadecimal}
use Rattle.packet_entry.specs.declared.packet.Card.{Card}
use Rattle.nfqa_headers.specs.declared.params.Params.{Params}
use Rattle.nfqa_headers.specs.declared.verdict_header.Head.{Head}
use Rattle.nfqa_msgs.specs.declared.request.Request.{Request}
use Rattle.nfqa_msgs.specs.declared.request.Request.TheVariants.{Config, Verdict, Batch}
use Rattle.queue_core.specs.declared.offers.Outcome.{Outcome}
use Rattle.queue_core.specs.declared.offers.Outcome.TheVariants.{Taken, Overflow, OverflowOpen}
use Rattle.queue_core.specs.declared.offers.Outcome.TheVariants.{UserFull, UserFullOpen, NoQueue}
use Rattle.queue_core.specs.declared.offers.Outcome.TheVariants.{Bypassed, CopyNone, Loop}
use Rattle.queue_core.specs.declared.event.Event.{Event}
use Rattle.queue_core.specs.declared.event.Event.TheVariants.{Arrive, Ask, PortClosed, DeviceDown}
use Rattle.queue_core.specs.declared.event.Reply.{Reply}
use Rattle.queue_core.specs.declared.event.Reply.TheVariants.{Arrived, Answer, Flushed}
use Rattle.histories.specs.declared.entry.Entry.{Entry}
use Rattle.histories.specs.declared.log.Did.{Did}
use Rattle.histories.specs.declared.log.Did.TheVariants.{Received, Sent, Closed}
use Rattle.histories.specs.declared.log.AskWords.{AskWords}
use Rattle.histories.specs.declared.log.AskWords.TheVariants.{Plain, Raw}
use Rattle.histories.specs.declared.log.PortLog.{PortLog}
use Rattle.histories.specs.declared.histories.Histories.{Histories}
use Rattle.journals.specs.declared.version.Version.{Version}
use Rattle.journals.specs.declared.version.Version.TheVariants.{First, Second}

abbrev pub yes_no : Bool → List ℕ
yes_no true = codes "y"
yes_no false = codes "n"

-- a word and its number, where there is one
abbrev pub part : List ℕ → Option ℕ → List ℕ
part word None = []
part word (Some n) = word ++ decimal n

abbrev pub params : Option Params → List ℕ
params None = []
params (Some p) = codes " params " ++ decimal p.mode ++ codes " " ++ decimal p.range

abbrev pub payload : Option (List ℕ) → List ℕ
payload None = []
payload (Some bytes) = codes " payload " ++ hexadecimal bytes

-- the verdict and the id, of a batch the greatest; `-` where there is no verdict header
abbrev pub head : Option Head → List ℕ
head None = codes "-"
head (Some h) = decimal h.verdict ++ codes " " ++ decimal h.id

-- a packet's priority, and the blank behind it
abbrev pub priority : Version → ℕ → List ℕ
priority First n = []
priority Second n = decimal n ++ codes " "

-- the priority that a request sets, where it does
abbrev pub new_priority : Version → Option ℕ → List ℕ
new_priority First n = []
new_priority Second n = part (codes " priority ") n

abbrev pub request : Version → Request → List ℕ
request v (Config queue command asked maxlen flags mask) =
    codes "config " ++ decimal queue ++ part (codes " cmd ") command ++ params asked
    ++ part (codes " maxlen ") maxlen ++ part (codes " flags ") flags ++ part (codes " mask ") mask
request v (Verdict queue h mark bytes n) =
    codes "verdict " ++ decimal queue ++ codes " " ++ head h ++ part (codes " mark ") mark
    ++ payload bytes ++ new_priority v n
request v (Batch queue h mark n) =
    codes "batch " ++ decimal queue ++ codes " " ++ head h ++ part (codes " mark ") mark
    ++ new_priority v n

abbrev pub outcome : Outcome → List ℕ
outcome (Taken id) = codes "taken:" ++ decimal id
outcome Overflow = codes "overflow"
outcome OverflowOpen = codes "overflow-open"
outcome (UserFull id) = codes "userfull:" ++ decimal id
outcome (UserFullOpen id) = codes "userfull-open:" ++ decimal id
outcome NoQueue = codes "noqueue"
outcome Bypassed = codes "bypassed"
outcome CopyNone = codes "copynone"
outcome Loop = codes "loop"

abbrev pub journey : Card → List ℕ
journey c =
    decimal c.number ++ codes " " ++ decimal c.visit ++ codes " " ++ decimal c.table ++ codes " "

abbrev pub facts : Version → Card → List ℕ
facts v c =
    decimal c.mark ++ codes " " ++ priority v c.priority ++ decimal c.seconds ++ codes " "
    ++ decimal c.micros ++ codes " " ++ decimal c.protocol ++ codes " "

abbrev pub card : Version → Card → List ℕ → List ℕ → List ℕ
card v c bypass room =
    journey c ++ (bypass ++ codes " " ++ room ++ codes " ") ++ facts v c ++ hexadecimal c.link
    ++ codes " "
    ++ hexadecimal c.bytes ++ codes " "

-- an arrival's outcome, a request's errno and how many packets left, or this number alone
abbrev pub reply : Reply → List ℕ
reply (Arrived o) = outcome o
reply (Answer errno taken) = codes " = " ++ decimal errno ++ codes " " ++ decimal taken
reply (Flushed taken) = codes " " ++ decimal taken

abbrev pub event : Version → ℕ → Event → List ℕ
event v queue (Arrive c bypass room) =
    codes "A " ++ decimal queue ++ codes " " ++ card v c (yes_no bypass) (yes_no room)
event v queue (Ask port call asked) =
    codes "M " ++ decimal queue ++ codes " " ++ decimal port ++ codes " " ++ decimal call
    ++ codes " " ++ request v asked
event v queue (PortClosed port) = codes "C " ++ decimal queue ++ codes " " ++ decimal port
event v queue (DeviceDown device) = codes "D " ++ decimal queue ++ codes " " ++ decimal device

-- an entry's line, without its end
abbrev pub entry_line : Version → Entry → List ℕ
entry_line v e = event v e.queue e.event ++ reply e.reply

abbrev pub entry : Version → Entry → List ℕ
entry v e = entry_line v e ++ codes "\n"

-- the errno of the acknowledgement, `-` where there was none
abbrev pub answer : Option ℕ → List ℕ
answer None = codes " = -"
answer (Some errno) = codes " = " ++ decimal errno

-- what a port sent: a request, or the bytes of another message
abbrev pub ask : Version → AskWords → List ℕ
ask v (Plain asked) = request v asked
ask v (Raw bytes) = codes "raw " ++ hexadecimal bytes

-- the line of what a port did, without its end
abbrev pub did_line : Version → Did → List ℕ
did_line v (Received queue number visit) =
    codes "R " ++ decimal queue ++ codes " " ++ decimal number ++ codes " " ++ decimal visit
did_line v (Sent call asked answered) =
    codes "S " ++ decimal call ++ codes " " ++ ask v asked ++ answer answered
did_line v Closed = codes "X"

abbrev pub did : Version → Did → List ℕ
did v d = did_line v d ++ codes "\n"

abbrev pub entries : Version → List Entry → List ℕ
entries v [] = []
entries v (e ∷ es) = entry v e ++ entries v es

abbrev pub dids : Version → List Did → List ℕ
dids v [] = []
dids v (d ∷ ds) = did v d ++ dids v ds

-- the line that a port's log begins with, without its end
abbrev pub port_line : ℕ → List ℕ
port_line port = codes "P " ++ decimal port

abbrev pub log : Version → PortLog → List ℕ
log v l = port_line l.port ++ codes "\n" ++ dids v l.dids

abbrev pub logs : Version → List PortLog → List ℕ
logs v [] = []
logs v (l ∷ ls) = log v l ++ logs v ls

abbrev pub histories : Version → Histories → List ℕ
histories v h = entries v h.entries ++ logs v h.logs

abbrev pub version_number : Version → List ℕ
version_number First = codes "1"
version_number Second = codes "2"

-- the first line, without its end
abbrev pub title : Version → List ℕ
title v = codes "nfq-journal " ++ version_number v

abbrev pub heading : Version → List ℕ
heading v = title v ++ codes "\n"

-- the last line, with its end
abbrev pub ending : List ℕ
ending = codes "end\n"

abbrev pub journal_in : Version → Histories → List ℕ
journal_in v h = heading v ++ histories v h ++ ending
