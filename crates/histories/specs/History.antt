-- Histories: what happened at queues, entry by entry, and the state that it leads to.
use Rattle.std.specs.Prelude.{◌≡◌, ◌≤◌, ℕ, List, [], ◌∷◌, Option, None, Bool, true, ◌==◌}
use Rattle.std.specs.Prelude.{option_map}
use Rattle.std.specs.Prelude.{filter, IsSome, Some}
use Rattle.packet_entry.specs.Numbers.{last_visit}
use Rattle.queue_core.specs.declared.event.Event.{Event}
use Rattle.queue_core.specs.declared.event.Event.TheVariants as event
use Rattle.queue_core.specs.State.{Bound}
use Rattle.queue_core.specs.Step.{step, is_decided_early}
use Rattle.histories.specs.declared.entry.Entry.{Entry}

-- ---- one queue

-- the state that entries lead to from a state
abbrev pub replay_from : Option Bound → List Entry → Option Bound
replay_from q [] = q
replay_from q (e ∷ es) = replay_from (step q e.event).state es

-- the state that a history leads to: each begins with an absent queue
abbrev pub replay : List Entry → Option Bound
replay es = replay_from None es

-- Which events may happen at a queue in this state. An arrival is one of a packet's visits, and no
-- mailbox lacks room where no notice is offered; a port is closed at its own queues, and a device
-- goes down at bound ones.
abbrev pub IsAllowed : Option Bound → Event → Type 0
IsAllowed q (event.Arrive card bypass room) =
    (1 ≤ card.visit) × (card.visit ≤ last_visit)
    × (is_decided_early q card ≡ true → room ≡ true)
IsAllowed q (event.Ask port call request) = Unit {0}
IsAllowed q (event.PortClosed port) = option_map (λ (b : Bound). b.port) q ≡ Some port
IsAllowed q (event.DeviceDown device) = IsSome q

-- the entry of an event that may happen in this state, with the reply of its step
pub record IsStep (q : Option Bound) (e : Entry) : Type 0 where
  pub reply : e.reply ≡ (step q e.event).reply
  pub allowed : IsAllowed q e.event

-- from a state on, each entry is such a step
abbrev pub IsLegalFrom : Option Bound → List Entry → Type 0
IsLegalFrom q [] = Unit {0}
IsLegalFrom q (e ∷ es) = IsStep q e × IsLegalFrom (step q e.event).state es

-- a history of the sequential queue
abbrev pub IsLegal : List Entry → Type 0
IsLegal es = IsLegalFrom None es

-- ---- several queues

-- whether an entry is of this queue
abbrev pub is_of : ℕ → Entry → Bool
is_of queue e = e.queue == queue

-- the history of one queue: its entries, in their order
abbrev pub history : ℕ → List Entry → List Entry
history queue es = filter (is_of queue) es

-- the history of each queue is legal
abbrev pub AreLegal : List Entry → Type 0
AreLegal es = (queue : ℕ) → IsLegal (history queue es)
