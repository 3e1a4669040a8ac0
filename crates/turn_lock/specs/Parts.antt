-- Parts of a lock. A lock is thought of as the set of all endless ways down a binary tree, and a
-- part is a set of such ways that a finite tree can name. Parts are handed from pass to pass, so
-- that a pass with the whole is known to be the only one left.
use Rattle.std.specs.Prelude.{◌≡◌, ℕ, Bool, true, false, ◌&&◌, ◌||◌, not, if◌then◌else◌}
use Rattle.std.specs.Prelude.{List, [], ◌∷◌, refl}
use Rattle.std.proofs.Common.{zero, suc, ap, ◌∙◌}
use Rattle.std.specs.Coded.{Coded, code_by, coded_list, coded_ℕ}

-- the whole, nothing, or a left and a right part
pub data Tree : Type 0 where
  Whole : Tree
  Empty : Tree
  Pair : Tree → Tree → Tree

-- a pair of two wholes is the whole, and a pair of two empty parts is empty
abbrev pub pair : Tree → Tree → Tree
pair Whole Whole = Whole
pair Whole Empty = Pair Whole Empty
pair Whole (Pair c d) = Pair Whole (Pair c d)
pair Empty Whole = Pair Empty Whole
pair Empty Empty = Empty
pair Empty (Pair c d) = Pair Empty (Pair c d)
pair (Pair a b) q = Pair (Pair a b) q

-- what is in one of two parts
abbrev pub union : Tree → Tree → Tree
union Whole q = Whole
union Empty q = q
union (Pair a b) Whole = Whole
union (Pair a b) Empty = Pair a b
union (Pair a b) (Pair c d) = pair (union a c) (union b d)

-- nothing is in the part
abbrev pub void : Tree → Bool
void Whole = false
void Empty = true
void (Pair a b) = void a && void b

-- something is in both parts
abbrev pub meets : Tree → Tree → Bool
meets Whole q = not (void q)
meets Empty q = false
meets (Pair a b) Whole = not (void a && void b)
meets (Pair a b) Empty = false
meets (Pair a b) (Pair c d) = meets a c || meets b d

-- A cut reads the leftmost whole in the tree as a pair of two. The piece that it takes off is the
-- right half of this pair alone
abbrev pub cut : Tree → Tree
cut Whole = Pair Empty Whole
cut Empty = Empty
cut (Pair a b) = if void a then Pair Empty (cut b) else Pair (cut a) Empty

-- and what it leaves is all the rest, the left half included
abbrev pub kept : Tree → Tree
kept Whole = Pair Whole Empty
kept Empty = Empty
kept (Pair a b) = if void a then Pair a (kept b) else Pair (kept a) b

-- not both are the whole, nor both empty
abbrev pub are_mixed : Tree → Tree → Bool
are_mixed Whole Whole = false
are_mixed Whole Empty = true
are_mixed Whole (Pair c d) = true
are_mixed Empty Whole = true
are_mixed Empty Empty = false
are_mixed Empty (Pair c d) = true
are_mixed (Pair a b) q = true

-- no pair in the tree could be written shorter
abbrev pub is_normal : Tree → Bool
is_normal Whole = true
is_normal Empty = true
is_normal (Pair a b) = is_normal a && (is_normal b && are_mixed a b)

-- the way from the second step on
abbrev pub further : (ℕ → Bool) → ℕ → Bool
further way n = way (suc n)

-- whether an endless way down, which goes right where it says `true`, is in the part
abbrev pub covers : Tree → (ℕ → Bool) → Bool
covers Whole way = true
covers Empty way = false
covers (Pair a b) way = if way 0 then covers b (further way) else covers a (further way)

-- no way is in both
abbrev pub Apart : Tree → Tree → Type 0
Apart p q = (way : ℕ → Bool) → covers p way ≡ true → covers q way ≡ true → ⊥

-- A tree is kept as its nodes in prefix order, which are read back from the right
abbrev laid : Tree → List ℕ → List ℕ
laid Whole ns = 0 ∷ ns
laid Empty ns = 1 ∷ ns
laid (Pair a b) ns = 2 ∷ laid a (laid b ns)

abbrev grown : ℕ → List Tree → List Tree
grown zero ts = Whole ∷ ts
grown (suc zero) ts = Empty ∷ ts
grown (suc (suc n)) [] = []
grown (suc (suc n)) (a ∷ []) = []
grown (suc (suc n)) (a ∷ b ∷ ts) = Pair a b ∷ ts

abbrev trees : List ℕ → List Tree
trees [] = []
trees (n ∷ ns) = grown n (trees ns)

abbrev first_tree : List Tree → Tree
first_tree [] = Empty
first_tree (t ∷ ts) = t

pub trees-laid : (t : Tree) (ns : List ℕ) → trees (laid t ns) ≡ t ∷ trees ns
trees-laid Whole ns = refl
trees-laid Empty ns = refl
trees-laid (Pair a b) ns =
    ap (grown 2) (trees-laid a (laid b ns) ∙ ap (λ (ts : List Tree). a ∷ ts) (trees-laid b ns))

abbrev pub tree_code : Coded Tree
tree_code =
    code_by (List ℕ) (coded_list coded_ℕ) (λ t. laid t []) (λ ns. first_tree (trees ns))
    (λ t. ap first_tree (trees-laid t []))
