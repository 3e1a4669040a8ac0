-- The step in the subject's own words.
use Rattle.std.specs.Prelude.{◌≡◌, ◌<◌, ℕ, ◌+◌, List, [], ◌∷◌, length, map, Option, Some, None}
use Rattle.std.specs.Prelude.{Bool, count_by, All, nat_eq, IfSome}
use Rattle.std.specs.List.{IsDistinct}
use Rattle.std.specs.Map.{keys_of}
use Rattle.packet_entry.specs.declared.packet.Card.{Card}
use Rattle.queue_core.specs.declared.event.Event.{Event}
use Rattle.queue_core.specs.declared.event.Event.TheVariants.{Arrive, Ask, PortClosed, DeviceDown}
use Rattle.queue_core.specs.declared.event.Reply.{Reply}
use Rattle.queue_core.specs.declared.event.Reply.TheVariants.{Arrived, Answer, Flushed}
use Rattle.queue_core.specs.declared.offers.Outcome.{Outcome}
use Rattle.queue_core.specs.declared.offers.Outcome.TheVariants.{Taken, Bypassed, OverflowOpen}
use Rattle.queue_core.specs.declared.offers.Outcome.TheVariants.{UserFullOpen}
use Rattle.queue_core.specs.Numbers.{id_count}
use Rattle.queue_core.specs.State.{Bound}
use Rattle.queue_core.specs.Step.{Way, Gone, Open, Stepped, step}

-- the packets that wait
abbrev pub waiting_in : Option Bound → List Card
waiting_in None = []
waiting_in (Some q) = map (λ w. w.1) q.waiting

-- the packet that arrives
abbrev pub arriving : Event → List Card
arriving (Arrive card bypass room) = card ∷ []
arriving other = []

-- the packets that leave
abbrev pub leaving_in : Stepped → List Card
leaving_in s = map (λ l. l.0) s.left

-- how many of these packets pass a test of their number and visit
abbrev pub times : (ℕ → ℕ → Bool) → List Card → ℕ
times test cards = count_by (λ c. test c.number c.visit) cards

-- A step loses no packet and doubles none: each that waited or arrives waits afterwards or leaves,
-- with its number and visit. So whatever test tells them apart, as many pass it.
abbrev pub IsConserving : Option Bound → Event → Type 0
IsConserving q e = (test : ℕ → ℕ → Bool) →
    times test (waiting_in (step q e).state) + times test (leaving_in (step q e))
    ≡ times test (waiting_in q) + times test (arriving e)

-- how many packets an arrival lets wait
abbrev pub stays_in : Outcome → ℕ
stays_in (Taken id) = 1
stays_in other = 0

-- A reply to an arrival tells whether its packet waits or left.
abbrev pub TellsArrival : Reply → ℕ → Type 0
TellsArrival (Arrived outcome) n = stays_in outcome + n ≡ 1
TellsArrival other n = ⊥

-- A reply to a request tells how many packets left,
abbrev pub TellsAsk : Reply → ℕ → Type 0
TellsAsk (Answer errno taken) n = taken ≡ n
TellsAsk other n = ⊥

-- and so does one to a closed port or to a device that goes down.
abbrev pub TellsFlush : Reply → ℕ → Type 0
TellsFlush (Flushed taken) n = taken ≡ n
TellsFlush other n = ⊥

-- a reply is of its event's kind, and tells how many packets left
abbrev pub Tells : Event → Reply → ℕ → Type 0
Tells (Arrive card bypass room) reply n = TellsArrival reply n
Tells (Ask port call request) reply n = TellsAsk reply n
Tells (PortClosed port) reply n = TellsFlush reply n
Tells (DeviceDown device) reply n = TellsFlush reply n

-- what leaves is destroyed
abbrev pub AllAreGone : Stepped → Type 0
AllAreGone s = All (λ l. l.1 ≡ Gone) s.left

-- the queue stays as it was, and nothing leaves
pub record IsUntouched (q : Option Bound) (s : Stepped) : Type 0 where
  pub state : s.state ≡ q
  pub left : s.left ≡ []

-- no two packets wait under one id
abbrev pub AreApart : Option Bound → Type 0
AreApart q = IfSome q (λ q. IsDistinct nat_eq (keys_of q.waiting))

-- a queue whose last id is of 32 bits, and where fewer packets wait than there are ids
abbrev pub HasIds : Option Bound → Type 0
HasIds q = IfSome q (λ q. (q.last < id_count) × (length q.waiting < id_count))

-- the way by which a packet that comes back of its arrival leaves: three outcomes let it through
abbrev pub way_by : Outcome → Way
way_by Bypassed = Open
way_by OverflowOpen = Open
way_by (UserFullOpen id) = Open
way_by other = Gone
