-- Journeys that are judged number by number: whether just the arrivals came that were asked for,
-- each as often as it was.
use Rattle.std.specs.Prelude.{◌≡◌, ◌<◌, ℕ, List, ◌++◌, Option, Bool, ◌==◌, count_by, flat_map}
use Rattle.std.specs.Prelude.{filter}
use Rattle.std.specs.Prelude.{[], MatchOption}
use Rattle.packet_entry.specs.declared.packet.Card.{Card}
use Rattle.hook_chain.specs.Rules.{RuleTables}
use Rattle.histories.specs.declared.entry.Entry.{Entry}
use Rattle.histories.specs.Moves.{moves}
use Rattle.histories.specs.Journeys.{Arrival, entering, asks, came, AreSound}

-- the arrivals that came
abbrev pub all_came : List Entry → List Arrival
all_came es = flat_map came (moves es)

-- those that were asked for: by the packets that entered, and by what left a queue
abbrev pub all_asked : RuleTables → ℕ → List Card → List Entry → List Arrival
all_asked tables key entered es =
    flat_map (entering tables key) entered ++ flat_map (asks tables key) (moves es)

-- each arrival stands equally often in both lists: whatever test tells arrivals apart, as many pass
abbrev pub AreAsMany : List Arrival → List Arrival → Type 0
AreAsMany xs ys = (test : Arrival → Bool) → count_by test xs ≡ count_by test ys

-- the arrivals of the packet with this number
abbrev pub has_number : ℕ → Arrival → Bool
has_number number a = a.card.number == number

abbrev pub of_number : ℕ → List Arrival → List Arrival
of_number number xs = filter (has_number number) xs

-- Just those arrivals of the packet with this number came that were asked for, each as often.
-- Nothing is lost.
abbrev pub IsMet : RuleTables → ℕ → List Card → List Entry → ℕ → Type 0
IsMet tables key entered es number =
    AreAsMany (of_number number (all_came es))
    (of_number number (all_asked tables key entered es))

-- the least number of which this isn't so
pub record IsLeastUnmet (tables : RuleTables) (key : ℕ) (entered : List Card) (es : List Entry)
    (number : ℕ) : Type 0 where
  pub unmet : IsMet tables key entered es number → ⊥
  pub before : (n : ℕ) → n < number → IsMet tables key entered es n

-- what is answered of these entries: nothing where they are sound for the packets that entered,
-- with nothing lost, and else that number
abbrev pub IsLeastOf : RuleTables → ℕ → List Card → List Entry → Option ℕ → Type 0
IsLeastOf tables key entered es number =
    MatchOption number (AreSound tables key entered es []) (IsLeastUnmet tables key entered es)
