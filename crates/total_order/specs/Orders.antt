-- One order of things that happen at several places: a list of them all, of which each place has
-- its part; and times, as logical clocks give them (Lamport, 1978), from which such an order comes.
use Rattle.std.specs.Prelude.{◌≡◌, ◌≤◌, ℕ, List, [], ◌∷◌, ◌++◌, map, filter, ◌==◌, nat_lt}
use mathlib.Core.List.{IsPrefix}

module _ {A : Type 0} where
  -- it holds of each
  abbrev pub EachIs : (A → Type 0) → List A → Type 0
  EachIs P [] = Unit {0}
  EachIs P (x ∷ xs) = P x × EachIs P xs

  -- it holds of each two, of which the first comes before the second
  abbrev pub Pairs : (A → A → Type 0) → List A → Type 0
  Pairs R [] = Unit {0}
  Pairs R (x ∷ xs) = EachIs (R x) xs × Pairs R xs

-- things with times, without them
abbrev pub untimed : {E : Type 0} → List (E × ℕ) → List E
untimed xs = map (λ x. x.0) xs

-- those that are earlier than this time
abbrev pub earlier : {E : Type 0} → ℕ → List (E × ℕ) → List (E × ℕ)
earlier time xs = filter (λ x. nat_lt x.1 time) xs

module _ {E : Type 0} (place : E → ℕ) where
  -- the part of one place
  abbrev pub part : ℕ → List E → List E
  part p es = filter (λ e. place e == p) es

  -- each place's part of the one list begins its part of the other
  abbrev pub GoesOn : List E → List E → Type 0
  GoesOn es fs = (p : ℕ) → IsPrefix (part p es) (part p fs)

module _ {E : Type 0} (Caused : List E → E → Type 0) where
  -- after these, each is caused by those before it
  abbrev pub AreCaused : List E → List E → Type 0
  AreCaused before [] = Unit {0}
  AreCaused before (e ∷ es) = Caused before e × AreCaused (before ++ e ∷ []) es

module _ {E : Type 0} (place : E → ℕ) (Caused : List E → E → Type 0)
    (MayPrecede : E → E → Type 0) where
  -- One order of these: each place's part is as it was, each thing is caused by those before it,
  -- and each may come before those after it.
  pub record IsOrder (es all : List E) : Type 0 where
    pub same : (p : ℕ) → part place p all ≡ part place p es
    pub caused : AreCaused Caused [] all
    pub kept : Pairs MayPrecede all

  -- there is one
  abbrev pub HasOrder : List E → Type 0
  HasOrder es = (all : List E) × IsOrder es all

  -- the one may come before the other, unless it is later
  abbrev pub MayBeEarlier : E × ℕ → E × ℕ → Type 0
  MayBeEarlier x y = x.1 ≤ y.1 → MayPrecede x.0 y.0

  -- Times that allow an order: at each place they never descend, each thing is caused by those that
  -- are earlier, and of each two the one may come before the other, unless it is later.
  pub record AreTimes (xs : List (E × ℕ)) : Type 0 where
    pub rise : Pairs (λ x y. place x.0 ≡ place y.0 → x.1 ≤ y.1) xs
    pub caused : EachIs (λ x. Caused (untimed (earlier x.1 xs)) x.0) xs
    pub kept : Pairs (λ x y. MayBeEarlier x y × MayBeEarlier y x) xs
