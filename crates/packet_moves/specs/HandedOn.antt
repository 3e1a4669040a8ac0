-- Visits that are in time, of packets that wait and that go on; and what leaves as one arrives.
use Rattle.std.specs.Prelude.{◌≡◌, ◌≢◌, ◌⊎◌, ℕ, List, [], ◌∷◌, Bool, ◌||◌, ◌==◌, nat_le, count_by}
use Rattle.packet_entry.specs.declared.packet.Card.{Card}
use Rattle.packet_entry.specs.Numbers.{last_visit}
use Rattle.hook_chain.specs.declared.chain.Decision.{Decision}
use Rattle.queue_core.specs.Laws.{times, waiting_in}
use Rattle.queue_core.specs.Step.{Stepped, Way, Gone, Open}
use Rattle.histories.specs.declared.entry.Entry.{Entry}
use Rattle.histories.specs.States.{state_of}

-- a visit that no waiting packet has: it isn't one of the first 32
abbrev pub is_out_of_time : ℕ → Bool
is_out_of_time visit = nat_le last_visit visit || (visit == 0)

-- no packet waits with such a visit
abbrev pub WaitInTime : List Entry → Type 0
WaitInTime es = (queue : ℕ) →
    times (λ number visit. is_out_of_time visit) (waiting_in (state_of es queue)) ≡ 0

-- and none of these has one
abbrev pub AreInTime : List (Card × Decision) → Type 0
AreInTime hs = count_by (λ h. is_out_of_time h.0.visit) hs ≡ 0

-- in an arrival's step nothing leaves but this packet, and at its last visit it doesn't go on
abbrev pub LeavesAlone : Card → Stepped → Type 0
LeavesAlone card s =
    (s.left ≡ [])
    ⊎ ((way : Way) × (s.left ≡ (card, way) ∷ [])
    × ((way ≡ Gone) ⊎ ((way ≡ Open) × (card.visit ≢ last_visit))))
