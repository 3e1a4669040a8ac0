-- Rows whose parts stay have together what they had.
use Rattle.std.proofs.Common.{◌≡◌, ℕ, zero, suc, List, [], ◌∷◌, refl, sym, ap, ◌∙◌}
use Rattle.std.specs.Prelude.{map, slice_get, Option, Some, None}
use Rattle.turn_lock.specs.Parts.{Tree, Empty, union}
use Rattle.place_rows.specs.Joining.{AreWhole, part_in, together_at}
use Rattle.place_rows.specs.Rows.{Known}
use Rattle.place_turns.specs.Trails.{parts_of}

abbrev part_of : Option Tree → Tree
part_of None = Empty
part_of (Some t) = t

part_read : (known : List Known) (k : ℕ) →
    part_in (slice_get known k) ≡ part_of (slice_get (parts_of known) k)
part_read [] k = refl
part_read (v ∷ known) zero = refl
part_read (v ∷ known) (suc k) = part_read known k

part_same : (olds news : List Known) (k : ℕ) → parts_of news ≡ parts_of olds →
    part_in (slice_get news k) ≡ part_in (slice_get olds k)
part_same olds news k same =
    part_read news k ∙ ap (λ (ts : List Tree). part_of (slice_get ts k)) same
    ∙ sym (part_read olds k)

module _ {X : Type 0} where
  first_same : (x y : X) (xs ys : List X) → x ∷ xs ≡ y ∷ ys → x ≡ y
  first_same x y xs ys e = cc

  rest_same : (x y : X) (xs ys : List X) → x ∷ xs ≡ y ∷ ys → xs ≡ ys
  rest_same x y xs ys e = cc

together_same : (k : ℕ) (t : Tree) (olds news : List (List Known)) →
    map parts_of news ≡ map parts_of olds → together_at k t news ≡ together_at k t olds
together_same k t [] [] same = refl
together_same k t [] (n ∷ news) same = absurd (cc same)
together_same k t (o ∷ olds) [] same = absurd (cc same)
together_same k t (o ∷ olds) (n ∷ news) same =
    together_same k (union t (part_in (slice_get n k))) olds news
    (rest_same (parts_of n) (parts_of o) (map parts_of news) (map parts_of olds) same)
    ∙ ap (λ (p : Tree). together_at k (union t p) olds)
    (part_same o n k
    (first_same (parts_of n) (parts_of o) (map parts_of news) (map parts_of olds) same))

pub whole_same : (places : ℕ) (olds news : List (List Known)) →
    map parts_of news ≡ map parts_of olds → AreWhole places olds → AreWhole places news
whole_same places olds news same whole = λ k few. together_same k Empty olds news same ∙ whole k few
