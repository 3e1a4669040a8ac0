-- What a pass knows of a place: the list that it has seen, each entry marked as its own or not.
use Rattle.std.specs.Prelude.{◌≡◌, ℕ, List, [], ◌∷◌, ◌++◌, map}
use Rattle.histories.specs.declared.entry.Entry.{Entry}

pub data Seen : Type 0 where
  Ours : Entry → Seen
  Theirs : Entry → Seen

abbrev pub entry : Seen → Entry
entry (Ours e) = e
entry (Theirs e) = e

abbrev pub entries : List Seen → List Entry
entries xs = map entry xs

abbrev pub all_ours : List Entry → List Seen
all_ours es = map Ours es

abbrev pub all_theirs : List Entry → List Seen
all_theirs es = map Theirs es

-- what a pass has seen, by place; nothing at places that a plane doesn't have
abbrev pub Shares : Type 0
Shares = ℕ → List Seen

-- it holds of each entry that is the pass's own
abbrev pub OursAre : (Entry → Type 0) → List Seen → Type 0
OursAre Q [] = Unit {0}
OursAre Q (Ours e ∷ xs) = Q e × OursAre Q xs
OursAre Q (Theirs e ∷ xs) = OursAre Q xs

-- it holds of each entry that isn't the pass's own
abbrev pub TheirsAre : (Entry → Type 0) → List Seen → Type 0
TheirsAre Q [] = Unit {0}
TheirsAre Q (Ours e ∷ xs) = TheirsAre Q xs
TheirsAre Q (Theirs e ∷ xs) = Q e × TheirsAre Q xs

-- it holds of each entry
abbrev pub EachIs : (Entry → Type 0) → List Entry → Type 0
EachIs Q [] = Unit {0}
EachIs Q (e ∷ es) = Q e × EachIs Q es

-- it holds of no entry
abbrev pub IsNone : Entry → Type 0
IsNone e = ⊥

-- it holds of any entry
abbrev pub IsAny : Entry → Type 0
IsAny e = Unit {0}

-- A pass goes on at a place: it has seen more, and it holds of what is new and its own.
pub record Grows (Q : Entry → Type 0) (old new : List Seen) : Type 0 where
  pub more : List Seen
  pub is : new ≡ old ++ more
  pub ours : OursAre Q more
