-- How journeys end: a packet that entered waits, was lost, or left a queue and goes nowhere.
use Rattle.std.specs.Prelude.{◌≡◌, ℕ, List, [], ◌∷◌, Bool, true, false, ◌&&◌, ◌==◌, count_by}
use Rattle.std.specs.Prelude.{sum_by, All}
use Rattle.packet_entry.specs.declared.packet.Card.{Card}
use Rattle.hook_chain.specs.Rules.{RuleTables}
use Rattle.queue_core.specs.Step.{Way}
use Rattle.queue_core.specs.Laws.{times, waiting_in}
use Rattle.histories.specs.declared.entry.Entry.{Entry}
use Rattle.histories.specs.History.{replay, history, is_of}
use Rattle.histories.specs.Moves.{Move}
use Rattle.histories.specs.Journeys.{Arrival, going_on, entering}

-- the packet with this number, at any visit
abbrev pub is_number : ℕ → ℕ → ℕ → Bool
is_number number n visit = n == number

abbrev pub is_nothing : List Arrival → Bool
is_nothing [] = true
is_nothing (a ∷ others) = false

-- whether what left a queue goes nowhere
abbrev pub is_over : RuleTables → ℕ → Card × Way → Bool
is_over tables key l = is_nothing (going_on tables key l)

-- how often a packet with this number left a queue and went nowhere
abbrev pub times_over : RuleTables → ℕ → ℕ → List Move → ℕ
times_over tables key number ms =
    sum_by (λ m. count_by (λ l. is_over tables key l && (l.0.number == number)) m.left) ms

-- how often it waits at these queues
abbrev pub times_waiting : ℕ → List ℕ → List Entry → ℕ
times_waiting number queues es =
    sum_by (λ q. times (is_number number) (waiting_in (replay (history q es)))) queues

-- how often it entered and was queued
abbrev pub times_entered : RuleTables → ℕ → ℕ → List Card → ℕ
times_entered tables key number entered =
    sum_by (λ c. count_by (λ (a : Arrival). a.card.number == number) (entering tables key c))
    entered

-- these queues have each entry's queue, once
abbrev pub AreQueuesOf : List Entry → List ℕ → Type 0
AreQueuesOf es queues = All (λ (e : Entry). count_by (λ q. is_of q e) queues ≡ 1) es
