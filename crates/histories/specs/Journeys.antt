-- Journeys: how packets go from the tables to queues, and from queue to queue. A packet that enters
-- asks for the arrival that its route says, and so does each packet that leaves a queue; nothing
-- else arrives, and what was asked for and doesn't arrive is lost.
use Rattle.std.specs.Prelude.{◌≡◌, ◌≤◌, ℕ, ◌+◌, List, [], ◌∷◌, Option, Some, None, Bool, ◌==◌}
use Rattle.std.specs.Prelude.{count_by, sum_by, flat_map}
use Rattle.packet_entry.specs.declared.packet.Card.{Card}
use Rattle.hook_chain.specs.Rules.{RuleTables}
use Rattle.hook_chain.specs.declared.chain.Next.{Next}
use Rattle.hook_chain.specs.declared.chain.Next.TheVariants.{Released, To}
use Rattle.hook_chain.specs.declared.chain.Decision.TheVariants.{Accept}
use Rattle.hook_chain.specs.Route.{next, onward_of}
use Rattle.queue_core.specs.declared.event.Event.{Event}
use Rattle.queue_core.specs.declared.event.Event.TheVariants.{Arrive}
use Rattle.queue_core.specs.Step.{Way, Gone, Open, Decided}
use Rattle.histories.specs.declared.histories.Lost.{Lost}
use Rattle.histories.specs.declared.entry.Entry.{Entry}
use Rattle.histories.specs.Moves.{Move, moves}

-- ---- arrivals that are asked for

-- an arrival: at which queue, of which packet, and whether the rule or the verdict that sent it
-- there has the bypass
pub record Arrival : Type 0 where
  pub queue : ℕ
  pub card : Card
  pub bypass : Bool

-- what a route asks for, of a packet at this visit
abbrev pub asked_by : Next → Card → ℕ → List Arrival
asked_by Released card visit = []
asked_by (To queue bypass table) card visit =
    record {
      queue = queue;
      card = record card { visit = visit; table = table };
      bypass = bypass;
    } ∷ []

-- nothing, where there is no route
abbrev pub asked_by_some : Option Next → Card → ℕ → List Arrival
asked_by_some None card visit = []
asked_by_some (Some route) card visit = asked_by route card visit

-- a packet that enters goes through the tables from the first on
abbrev pub entering : RuleTables → ℕ → Card → List Arrival
entering tables key card = asked_by (next tables key card 1) card 1

-- A packet that leaves a queue goes on as its verdict decided, or with the next table where it was
-- let through; what is destroyed goes nowhere.
abbrev pub going_on : RuleTables → ℕ → Card × Way → List Arrival
going_on tables key (card, Gone) = []
going_on tables key (card, Open) =
    asked_by_some (onward_of tables key card Accept) card (card.visit + 1)
going_on tables key (card, Decided decision) =
    asked_by_some (onward_of tables key card decision) card (card.visit + 1)

-- what a move asks for
abbrev pub asks : RuleTables → ℕ → Move → List Arrival
asks tables key m = flat_map (going_on tables key) m.left

-- ---- arrivals that come

abbrev pub arrival_of : ℕ → Event → List Arrival
arrival_of queue (Arrive card bypass room) =
    record { queue = queue; card = card; bypass = bypass } ∷ []
arrival_of queue other = []

-- the arrival that a move is
abbrev pub came : Move → List Arrival
came m = arrival_of m.entry.queue m.entry.event

-- an arrival as what is told of one that was lost
abbrev pub visit_of : Arrival → Lost
visit_of a = record { number = a.card.number; visit = a.card.visit }

-- ---- soundness

-- how many arrivals among these moves pass a test
abbrev pub times_came : (Arrival → Bool) → List Move → ℕ
times_came test ms = sum_by (λ m. count_by test (came m)) ms

-- how many pass it of those that the packets that entered and these moves ask for
abbrev pub times_asked : RuleTables → ℕ → (Arrival → Bool) → List Card → List Move → ℕ
times_asked tables key test entered ms =
    sum_by (λ c. count_by test (entering tables key c)) entered
    + sum_by (λ m. count_by test (asks tables key m)) ms

-- Moves are sound for the packets that entered and those that were lost, but for arrivals that are
-- still owed.
pub record IsSoundBut (tables : RuleTables) (key : ℕ) (owed : List Arrival)
    (entered : List Card) (ms : List Move) (lost : List Lost) : Type 0 where
  -- whatever test tells arrivals apart, no more came or are owed than were asked for
  pub asked : (test : Arrival → Bool) →
      times_came test ms + count_by test owed ≤ times_asked tables key test entered ms
  -- by number and visit, those that came, are owed or were lost are just those asked for
  pub met : (test : Lost → Bool) →
      times_came (λ a. test (visit_of a)) ms + count_by (λ a. test (visit_of a)) owed
      + count_by test lost
      ≡ times_asked tables key (λ a. test (visit_of a)) entered ms
  -- no first visit is lost
  pub first : count_by (λ (l : Lost). l.visit == 1) lost ≡ 0

-- entries are sound for the packets that entered and those that were lost
abbrev pub AreSound : RuleTables → ℕ → List Card → List Entry → List Lost → Type 0
AreSound tables key entered es lost = IsSoundBut tables key [] entered (moves es) lost
