-- Where a packet stands between two queues, as the code of a plane has it.
use Rattle.std.specs.Prelude.{◌≡◌, ◌⊎◌, ◌<◌, ◌≤◌, ◌-◌, ◌+◌, ℕ, suc}
use Rattle.packet_entry.specs.declared.packet.Card.{Card}
use Rattle.packet_entry.specs.Numbers.{last_visit}
use Rattle.hook_chain.specs.declared.chain.Next.{Next}
use Rattle.hook_chain.specs.declared.chain.Next.TheVariants.{Released, To}
use Rattle.queue_core.specs.Step.{Way, Gone, Open, Decided}
use Rattle.packet_moves.specs.declared.came.Came.{Came}
use Rattle.packet_moves.specs.declared.came.Came.TheVariants.{Ended, GoesOn}
use Rattle.packet_moves.specs.declared.fed.Fed.TheVariants as fed
use Rattle.packet_moves.specs.declared.setting.Setting.{Setting}
use Rattle.packet_moves.specs.Moving.{route_after}

-- where a packet stands that a queue didn't take
abbrev pub IsTurned : Setting → Card → Way → Came → Type 0
IsTurned s card Gone came = came ≡ Ended fed.Destroyed
IsTurned s card Open came = came ≡ GoesOn card (route_after s (card, Open))
IsTurned s card (Decided decision) came = ⊥

-- it can have one arrival more
abbrev pub IsInTime : Came → Type 0
IsInTime (Ended fed) = Unit {0}
IsInTime (GoesOn card route) = card.visit < last_visit

-- where it goes on it has this visit
abbrev pub HasVisit : ℕ → Came → Type 0
HasVisit visit (Ended fed) = Unit {0}
HasVisit visit (GoesOn card route) = card.visit ≡ visit

-- how many arrivals are left to it, and one more while it goes on; 0 once it ended
abbrev pub arrivals_left : Came → ℕ
arrivals_left (Ended fed) = 0
arrivals_left (GoesOn card route) = suc (last_visit - card.visit)

-- ---- room for lost packets

-- one more may be lost while it goes on; once it ended at most one more was
abbrev pub KeepsRoom : ℕ → ℕ → Came → Type 0
KeepsRoom old new (Ended fed) = old ≤ new + 1
KeepsRoom old new (GoesOn card route) = new ≡ old

-- to go on it needs room for one that is lost
abbrev pub NeedsRoom : Came → ℕ → Type 0
NeedsRoom (Ended fed) room = Unit {0}
NeedsRoom (GoesOn card route) room = 0 < room

-- and spends no more than that
abbrev pub SpendsRoom : Came → ℕ → ℕ → Type 0
SpendsRoom (Ended fed) old new = new ≡ old
SpendsRoom (GoesOn card route) old new = old ≤ new + 1

-- ---- packets that come back

-- the packet as it was to arrive by this route
abbrev pub WasToArrive : Card → Next → Card → Type 0
WasToArrive card Released back = ⊥
WasToArrive card (To queue bypass table) back =
    back ≡ record card { visit = card.visit + 1; table = table }

-- a packet that is handed back is as it was, or as it was to arrive
abbrev pub HandsBack : Card → Next → Card → Type 0
HandsBack card route back = (back ≡ card) ⊎ WasToArrive card route back
