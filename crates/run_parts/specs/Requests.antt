-- Requests: what stands in the queues' histories of the messages that ports sent.
use Rattle.std.specs.Prelude.{◌≡◌, ℕ, List, [], ◌∷◌, flat_map, ◌==◌, if◌then◌else◌}
use Rattle.std.specs.Prelude.{Option}
use Rattle.nfqa_msgs.specs.declared.request.Request.{Request}
use Rattle.nfqa_msgs.specs.declared.request.Decoded.{Decoded}
use Rattle.nfqa_msgs.specs.declared.request.Decoded.TheVariants.{Nothing, Refused, Asked}
use Rattle.nfqa_msgs.specs.RequestReading.{decoded}
use Rattle.queue_core.specs.declared.event.Event.{Event}
use Rattle.queue_core.specs.declared.event.Event.TheVariants.{Arrive, Ask, PortClosed, DeviceDown}
use Rattle.queue_core.specs.declared.event.Reply.{Reply}
use Rattle.queue_core.specs.declared.event.Reply.TheVariants.{Arrived, Answer, Flushed}
use Rattle.histories.specs.declared.entry.Entry.{Entry}
use Rattle.histories.specs.declared.log.Did.{Did}
use Rattle.histories.specs.declared.log.Did.TheVariants.{Received, Sent, Closed}
use Rattle.histories.specs.History.{history}
use Rattle.histories.specs.Happenings.{queue_of}
use Rattle.run_parts.specs.Log.{Note, Got, Turned, Begun, Spoke, Shut, logged}

-- the errno of a reply; no other reply comes to a request
abbrev pub errno_in : Reply → ℕ
errno_in (Arrived outcome) = 0
errno_in (Answer errno taken) = errno
errno_in (Flushed taken) = 0

-- one request of a port: its call, what it asks, and its errno
pub record Plea : Type 0 where
  pub call : ℕ
  pub request : Request
  pub errno : ℕ

-- the request of this port that an entry is
abbrev pub pleas_by : ℕ → Event → Reply → List Plea
pleas_by port (Arrive card bypass room) reply = []
pleas_by port (Ask by call request) reply =
    if port == by
    then record { call = call; request = request; errno = errno_in reply } ∷ []
    else []
pleas_by port (PortClosed closed) reply = []
pleas_by port (DeviceDown device) reply = []

-- the requests of a port in an entry, and in a history
abbrev pub pleas_of : ℕ → Entry → List Plea
pleas_of port e = pleas_by port e.event e.reply

abbrev pub pleas_in : ℕ → List Entry → List Plea
pleas_in port es = flat_map (pleas_of port) es

-- the request for this queue that a message is decoded to
abbrev pub plea_of : ℕ → ℕ → ℕ → Decoded → List Plea
plea_of queue call errno Nothing = []
plea_of queue call errno (Refused refusal) = []
plea_of queue call errno (Asked request) =
    if queue_of request == queue
    then record { call = call; request = request; errno = errno } ∷ []
    else []

abbrev pub pleas_told : ℕ → Note → List Plea
pleas_told queue (Got l) = []
pleas_told queue Turned = []
pleas_told queue Begun = []
pleas_told queue (Spoke call m errno) = plea_of queue call errno (decoded m)
pleas_told queue Shut = []

-- In each queue's history the requests of a port are those of its messages that are decoded to a
-- request for this queue: one entry for each, in their order, with the port, the message's number
-- and its errno.
abbrev pub AreRequests : List Entry → ℕ → List Note → Type 0
AreRequests es port notes =
    (queue : ℕ) → pleas_in port (history queue es) ≡ flat_map (pleas_told queue) notes

-- ---- errnos and answers

-- the errno of a message that asks nothing of a queue; of the others their entry tells it
abbrev pub IsErrno : Decoded → ℕ → Type 0
IsErrno Nothing errno = errno ≡ 0
IsErrno (Refused refusal) errno = errno ≡ refusal
IsErrno (Asked request) errno = Unit {0}

-- so it is of each message that a port sent
abbrev pub AreErrnos : List Note → Type 0
AreErrnos [] = Unit {0}
AreErrnos (Got l ∷ ns) = AreErrnos ns
AreErrnos (Turned ∷ ns) = AreErrnos ns
AreErrnos (Begun ∷ ns) = AreErrnos ns
AreErrnos (Spoke call m errno ∷ ns) = IsErrno (decoded m) errno × AreErrnos ns
AreErrnos (Shut ∷ ns) = AreErrnos ns

-- the answer that is logged of a message
abbrev pub answer_in : Did → List (Option ℕ)
answer_in (Received queue number visit) = []
answer_in (Sent call ask answer) = answer ∷ []
answer_in Closed = []

-- The answers in a port's log are those of its messages: the errno, where it isn't 0 or the message
-- asks for an acknowledgement, and else none.
abbrev pub AreAnswers : ℕ → List Note → List Did → Type 0
AreAnswers port notes dids = flat_map answer_in dids ≡ flat_map answer_in (logged port notes)
