-- For proofs alone: sets of pairs and of notices, and the messages that are asked.
use Rattle.std.specs.Prelude.{ℕ, Bool, true, false, ◌&&◌, ◌==◌, List}
use Rattle.std.specs.List.{list_any}
use Rattle.std.specs.Ordering.{nat_cmp, ordering_then}
use Rattle.std.specs.declared.cmp.Ordering.{Ordering}
use Rattle.std.specs.BTreeSet.{BTreeSet, contains}
use Rattle.queue_core.specs.declared.event.Event.{Event}
use Rattle.queue_core.specs.declared.event.Event.TheVariants.{Arrive, Ask, PortClosed, DeviceDown}
use Rattle.queue_core.specs.declared.event.Reply.{Reply}
use Rattle.queue_core.specs.declared.event.Reply.TheVariants.{Arrived, Answer, Flushed}
use Rattle.queue_core.specs.declared.offers.Outcome.{Outcome}
use Rattle.queue_core.specs.declared.offers.Outcome.TheVariants.{Taken}
use Rattle.histories.specs.declared.entry.Entry.{Entry}

-- ---- pairs

abbrev pub PairSet : Type 0
PairSet = BTreeSet (ℕ × ℕ)

abbrev pub pair_cmp : ℕ × ℕ → ℕ × ℕ → Ordering
pair_cmp x y = ordering_then (nat_cmp x.0 y.0) (nat_cmp x.1 y.1)

abbrev pub has : PairSet → ℕ → ℕ → Bool
has s a b = contains pair_cmp s (a, b)

abbrev pub is_pair : ℕ → ℕ → ℕ × ℕ → Bool
is_pair a b x = (x.0 == a) && (x.1 == b)

abbrev pub is_among : ℕ → ℕ → List (ℕ × ℕ) → Bool
is_among a b xs = list_any (is_pair a b) xs

-- ---- notices: a queue, a packet's number and its visit

abbrev pub NoticeSet : Type 0
NoticeSet = BTreeSet (ℕ × (ℕ × ℕ))

abbrev pub notice_cmp : ℕ × (ℕ × ℕ) → ℕ × (ℕ × ℕ) → Ordering
notice_cmp x y = ordering_then (nat_cmp x.0 y.0) (pair_cmp x.1 y.1)

abbrev pub has_notice : NoticeSet → ℕ → ℕ → ℕ → Bool
has_notice s queue number visit = contains notice_cmp s (queue, (number, visit))

abbrev pub is_notice : ℕ → ℕ → ℕ → ℕ × (ℕ × ℕ) → Bool
is_notice queue number visit x = (x.0 == queue) && is_pair number visit x.1

-- whether a queue took what arrived
abbrev pub is_taken : Outcome → Bool
is_taken (Taken id) = true
is_taken other = false

-- this is the notice of an arrival that its queue took
abbrev pub notifies_with : ℕ → ℕ → ℕ → ℕ × (ℕ × ℕ) → Outcome → Bool
notifies_with queue number visit x outcome = is_taken outcome && is_notice queue number visit x

abbrev pub notifies_as : ℕ → ℕ → ℕ → ℕ × (ℕ × ℕ) → Reply → Bool
notifies_as queue number visit x (Arrived outcome) = notifies_with queue number visit x outcome
notifies_as queue number visit x (Answer errno taken) = false
notifies_as queue number visit x (Flushed taken) = false

abbrev pub notifies_by : ℕ → ℕ → ℕ → ℕ → Event → Reply → Bool
notifies_by at queue number visit (Arrive card bypass room) reply =
    notifies_as queue number visit (at, (card.number, card.visit)) reply
notifies_by at queue number visit (Ask port call request) reply = false
notifies_by at queue number visit (PortClosed port) reply = false
notifies_by at queue number visit (DeviceDown device) reply = false

abbrev pub notifies : ℕ → ℕ → ℕ → Entry → Bool
notifies queue number visit e = notifies_by e.queue queue number visit e.event e.reply

-- ---- messages: a port and a number

abbrev pub asks_by : ℕ → ℕ → Event → Bool
asks_by port call (Arrive card bypass room) = false
asks_by port call (Ask by number request) = is_pair port call (by, number)
asks_by port call (PortClosed closed) = false
asks_by port call (DeviceDown device) = false

-- the entry is the request of this message
abbrev pub asks : ℕ → ℕ → Entry → Bool
asks port call e = asks_by port call e.event

abbrev pub is_asked : ℕ → ℕ → List Entry → Bool
is_asked port call es = list_any (asks port call) es
