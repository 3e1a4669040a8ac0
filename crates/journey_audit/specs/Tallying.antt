-- For proofs alone: tallies of arrivals, by the packet's number.
use Rattle.std.specs.Prelude.{◌≡◌, ◌<◌, ℕ, List, [], ◌∷◌, ◌++◌, Option, Some, None, ⊤, false}
use Rattle.std.specs.Prelude.{MatchOption}
use Rattle.std.specs.BTreeMap.{BTreeMap, get, is_at}
use Rattle.std.specs.Ordering.{nat_cmp}
use Rattle.histories.specs.Journeys.{Arrival}
use Rattle.journey_audit.specs.declared.tally.Tally.{Tally}
use Rattle.journey_audit.specs.Unmet.{AreAsMany, of_number}

abbrev pub TallyMap : Type 0
TallyMap = BTreeMap ℕ Tally

-- what is kept of one number; nothing of a number that isn't kept
abbrev pub came_in : Option Tally → List Arrival
came_in None = []
came_in (Some t) = t.came.items

abbrev pub asked_in : Option Tally → List Arrival
asked_in None = []
asked_in (Some t) = t.asked.items

-- the tallies are those of these arrivals that came, and of these that were asked for
pub record IsTallied (tallies : TallyMap) (cs ds : List Arrival) : Type 0 where
  pub came : (number : ℕ) → came_in (get nat_cmp tallies number) ≡ of_number number cs
  pub asked : (number : ℕ) → asked_in (get nat_cmp tallies number) ≡ of_number number ds

-- one more came
pub record NotesCame (old new : TallyMap) (a : Arrival) : Type 0 where
  pub came : came_in (get nat_cmp new a.card.number)
      ≡ came_in (get nat_cmp old a.card.number) ++ a ∷ []
  pub asked : asked_in (get nat_cmp new a.card.number) ≡ asked_in (get nat_cmp old a.card.number)
  pub others : (number : ℕ) → is_at (nat_cmp a.card.number) number ≡ false →
      get nat_cmp new number ≡ get nat_cmp old number

-- one more is asked for
pub record NotesAsked (old new : TallyMap) (a : Arrival) : Type 0 where
  pub came : came_in (get nat_cmp new a.card.number) ≡ came_in (get nat_cmp old a.card.number)
  pub asked : asked_in (get nat_cmp new a.card.number)
      ≡ asked_in (get nat_cmp old a.card.number) ++ a ∷ []
  pub others : (number : ℕ) → is_at (nat_cmp a.card.number) number ≡ false →
      get nat_cmp new number ≡ get nat_cmp old number

-- these more came, and these more are asked for
abbrev pub Grows : TallyMap → TallyMap → List Arrival → List Arrival → Type 0
Grows old new came asked =
    (cs ds : List Arrival) → IsTallied old cs ds → IsTallied new (cs ++ came) (ds ++ asked)

-- as many came as were asked for
abbrev pub IsEven : Tally → Type 0
IsEven t = AreAsMany t.came.items t.asked.items

abbrev pub IsEvenIn : Option Tally → Type 0
IsEvenIn None = ⊤
IsEvenIn (Some t) = IsEven t

-- the least number with a tally that isn't even
pub record IsLeastUneven (tallies : TallyMap) (number : ℕ) : Type 0 where
  pub uneven : IsEvenIn (get nat_cmp tallies number) → ⊥
  pub before : (n : ℕ) → n < number → IsEvenIn (get nat_cmp tallies n)

abbrev pub IsFirstUneven : TallyMap → Option ℕ → Type 0
IsFirstUneven tallies number =
    MatchOption number ((n : ℕ) → IsEvenIn (get nat_cmp tallies n)) (IsLeastUneven tallies)
