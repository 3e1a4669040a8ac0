-- Cuts of a file.
use Rattle.std.proofs.Common.{◌≡◌, ℕ, ◌+◌, ◌-◌, ◌≤◌, List, length, take, drop, ap, sym, ◌∙◌, arith}
use Rattle.std.specs.Prelude.{slice_range}
use Rattle.std.proofs.lemmas.List.{drop-drop, length-drop}

-- a part of what stands after a place is a part of the whole
pub cut_after : (xs : List ℕ) (at s e : ℕ) →
    slice_range xs (at + s) (at + e) ≡ slice_range (drop at xs) s e
cut_after xs at s e =
    let size : at + e - (at + s) ≡ e - s = omega arith in
    ap (λ n. take n (drop (at + s) xs)) size ∙ ap (take (e - s)) (sym (drop-drop s at xs))

-- a place and what stands after it make the whole
pub rest_of : (xs : List ℕ) (at : ℕ) → at ≤ length xs → length (drop at xs) + at ≡ length xs
rest_of xs at le = omega (arith, length-drop at xs)
