-- For proofs alone: the requests that logs tell, and whether they were answered as is logged.
use Rattle.std.specs.Prelude.{◌≡◌, ℕ, Bool, true, not, ◌&&◌, ◌==◌, nat_eq, nat_le, List, []}
use Rattle.std.specs.Prelude.{◌∷◌, length, map, flat_map, Option, Some, None, option_map, is_some}
use Rattle.std.specs.Prelude.{if◌then◌else◌}
use Rattle.std.specs.List.{list_any, list_all, AllByRecursion}
use Rattle.packet_entry.specs.Numbers.{longest_payload}
use Rattle.netlink_codec.specs.Messages.{NetlinkMessage, first_message}
use Rattle.netlink_codec.specs.Acknowledgements.{is_unanswered}
use Rattle.nfqa_msgs.specs.declared.request.Request.{Request}
use Rattle.nfqa_msgs.specs.declared.request.Request.TheVariants.{Config, Verdict, Batch}
use Rattle.nfqa_msgs.specs.declared.request.Decoded.{Decoded}
use Rattle.nfqa_msgs.specs.declared.request.Decoded.TheVariants.{Nothing, Refused, Asked}
use Rattle.nfqa_msgs.specs.RequestReading.{decoded}
use Rattle.nfqa_msgs.specs.RequestWriting.{spelling}
use Rattle.queue_core.specs.State.{Bound}
use Rattle.queue_core.specs.declared.event.Event.{Event}
use Rattle.queue_core.specs.declared.event.Event.TheVariants.{Arrive, Ask, PortClosed, DeviceDown}
use Rattle.queue_core.specs.declared.event.Reply.{Reply}
use Rattle.histories.specs.declared.entry.Entry.{Entry}
use Rattle.histories.specs.declared.log.AskWords.{AskWords}
use Rattle.histories.specs.declared.log.AskWords.TheVariants.{Plain, Raw}
use Rattle.histories.specs.declared.log.Did.{Did}
use Rattle.histories.specs.declared.log.Did.TheVariants.{Received, Sent, Closed}
use Rattle.histories.specs.declared.log.PortLog.{PortLog}
use Rattle.histories.specs.declared.histories.Histories.{Histories}
use Rattle.inspector_script.specs.Scripts.{ScriptValue}
use Rattle.packet_moves.specs.Messages.{words_of}
use Rattle.run_parts.specs.Log.{Note, Got, Turned, Begun, Spoke, Shut}
use Rattle.run_parts.specs.Ports.{is_port}
use Rattle.run_parts.specs.Requests.{Plea, plea_of, pleas_of, errno_in, answer_in}
use Rattle.port_audit.specs.Dealing.{RowMap, IsMet, AreDealt, side}
use Rattle.port_audit.specs.Told.{dids_of}

-- ---- messages

-- the message that bytes begin with
abbrev pub message_in : List ℕ → Option NetlinkMessage
message_in bytes = option_map (λ (f : NetlinkMessage × ℕ). f.0) (first_message bytes)

-- a payload has no more bytes than one attribute holds
abbrev pub payload_fits : Request → Bool
payload_fits (Config queue command params maxlen flags mask) = true
payload_fits (Verdict queue head mark None priority) = true
payload_fits (Verdict queue head mark (Some bytes) priority) =
    nat_le (length bytes) longest_payload
payload_fits (Batch queue head mark priority) = true

-- the message that was logged so
abbrev pub told_by_words : ℕ → ℕ → AskWords → Option NetlinkMessage
told_by_words port call (Plain request) =
    if payload_fits request then message_in (spelling port call request) else None
told_by_words port call (Raw bytes) = message_in bytes

-- A message is told by how it is logged.
abbrev pub IsToldByWords : ℕ → Note → Type 0
IsToldByWords port (Got l) = Unit {0}
IsToldByWords port Turned = Unit {0}
IsToldByWords port Begun = Unit {0}
IsToldByWords port (Spoke call m errno) =
    told_by_words port call (words_of port call m.whole (decoded m)) ≡ Some m
IsToldByWords port Shut = Unit {0}

-- so it is of each message of the script's ports
abbrev pub AreToldByWords : ScriptValue → (ℕ → List Note) → Type 0
AreToldByWords script notes = (port : ℕ) → is_port script port ≡ true →
    AllByRecursion (IsToldByWords port) (notes port)

-- ---- answers

-- the errno that an answer tells; no answer tells 0
abbrev pub errno_told : Option ℕ → ℕ
errno_told None = 0
errno_told (Some errno) = errno

abbrev pub errnos_by : Note → List ℕ
errnos_by (Got l) = []
errnos_by Turned = []
errnos_by Begun = []
errnos_by (Spoke call m errno) = errno ∷ []
errnos_by Shut = []

-- The messages of the script's ports have the errnos that their answers tell.
abbrev pub HaveErrnos : ScriptValue → Histories → (ℕ → List Note) → Type 0
HaveErrnos script h notes = (port : ℕ) → is_port script port ≡ true →
    flat_map errnos_by (notes port) ≡ map errno_told (flat_map answer_in (dids_of port h.logs))

-- a message has this answer, if its errno is the one that the answer tells
abbrev pub is_answer : NetlinkMessage → Option ℕ → Bool
is_answer m None = is_unanswered m 0
is_answer m (Some errno) = not (is_unanswered m errno)

abbrev pub is_errno : Decoded → ℕ → Bool
is_errno Nothing errno = errno == 0
is_errno (Refused refusal) errno = errno == refusal
is_errno (Asked request) errno = true

-- what a message is decoded to, where it has this answer
abbrev pub judged : Option ℕ → NetlinkMessage → Option Decoded
judged answer m =
    if is_answer m answer && is_errno (decoded m) (errno_told answer)
    then Some (decoded m)
    else None

abbrev pub judged_in : Option ℕ → Option NetlinkMessage → Option Decoded
judged_in answer None = None
judged_in answer (Some m) = judged answer m

-- ---- what is told

abbrev pub is_good : ℕ → Did → Bool
is_good port (Received queue number visit) = true
is_good port (Sent call ask answer) = is_some (judged_in answer (told_by_words port call ask))
is_good port Closed = true

abbrev pub are_good : List PortLog → ℕ → Bool
are_good logs port = list_all (is_good port) (dids_of port logs)

abbrev pub AllGood : List ℕ → List PortLog → Type 0
AllGood ports logs = (port : ℕ) → list_any (nat_eq port) ports ≡ true →
    are_good logs port ≡ true

abbrev pub pleas_judged : ℕ → ℕ → ℕ → Option Decoded → List Plea
pleas_judged queue call errno None = []
pleas_judged queue call errno (Some d) = plea_of queue call errno d

abbrev pub pleas_by_did : ℕ → ℕ → Did → List Plea
pleas_by_did port queue (Received from number visit) = []
pleas_by_did port queue (Sent call ask answer) =
    pleas_judged queue call (errno_told answer) (judged_in answer (told_by_words port call ask))
pleas_by_did port queue Closed = []

abbrev pub pleas_in_dids : ℕ → ℕ → List Did → List Plea
pleas_in_dids port queue dids = flat_map (pleas_by_did port queue) dids

abbrev pub pleas_in_log : List PortLog → ℕ → ℕ → List Plea
pleas_in_log logs port queue = pleas_in_dids port queue (dids_of port logs)

-- all ports' messages are answered well, and are dealt; or some message isn't
abbrev pub AreDealtWell : List ℕ → List PortLog → Option (RowMap Plea) → Type 0
AreDealtWell ports logs None = AllGood ports logs → ⊥
AreDealtWell ports logs (Some rows) = AllGood ports logs × AreDealt ports (pleas_in_log logs) rows

-- ---- what is brought

abbrev pub plea : ℕ → Request → ℕ → Plea
plea call request errno = record { call = call; request = request; errno = errno }

abbrev pub pleas_brought : ℕ → Option Bound → Entry → List Plea
pleas_brought p q e = pleas_of p e

-- an event is no request, or is the first of its row
abbrev pub MeetsEvent : ℕ → Event → Reply → RowMap Plea → RowMap Plea → Bool → Type 0
MeetsEvent queue (Arrive card bypass room) reply old new b = (b ≡ true) × (new ≡ old)
MeetsEvent queue (Ask port call request) reply old new b =
    IsMet (side port queue) (plea call request (errno_in reply)) old new b
MeetsEvent queue (PortClosed port) reply old new b = (b ≡ true) × (new ≡ old)
MeetsEvent queue (DeviceDown device) reply old new b = (b ≡ true) × (new ≡ old)
