-- Cuts of cuts.
use Rattle.std.proofs.Common.{◌≡◌, ℕ, ◌+◌, ◌-◌, ◌≤◌, List, take, drop, ap, ◌∙◌, arith}
use Rattle.std.specs.Prelude.{slice_range}
use Rattle.std.proofs.lemmas.List.{take-take, drop-drop, drop-take}

-- a part of a part is a part of the whole
pub cut_of_cut : (xs : List ℕ) (a b s e : ℕ) → s ≤ e → e ≤ b - a →
    slice_range (slice_range xs a b) s e ≡ slice_range xs (a + s) (a + e)
cut_of_cut xs a b s e order within =
    let split : b - a ≡ s + (b - a - s) = omega arith in
    let short : e - s ≤ b - a - s = omega arith in
    let size : e - s ≡ a + e - (a + s) = omega arith in
    ap (λ n. take (e - s) (drop s (take n (drop a xs)))) split
    ∙ ap (take (e - s)) (drop-take s (b - a - s) (drop a xs))
    ∙ take-take (e - s) (b - a - s) (drop s (drop a xs)) short
    ∙ ap (take (e - s)) (drop-drop s a xs)
    ∙ ap (λ n. take n (drop (a + s) xs)) size
