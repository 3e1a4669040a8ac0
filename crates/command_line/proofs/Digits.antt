-- What is left of a number's digits gives the same number.
use Rattle.std.proofs.Common.{◌≡◌, ℕ, ◌+◌, ◌<◌, ◌≤◌, List, length, get_or, drop, Some}
use Rattle.std.proofs.Common.{None, ◌∙◌, refl, add-one, drop-cons}
use Rattle.std.proofs.lemmas.List.{drop_all}
use Rattle.text_lines.specs.Words.{◌>>=◌}
use Rattle.command_line.specs.Numerals.{digits_onto, with_digit}

step : (n i : ℕ) (xs : List ℕ) → i < length xs →
    digits_onto n (drop i xs)
    ≡ (with_digit n (get_or xs i 0) >>= λ m. digits_onto m (drop (i + 1) xs))
unfolding digits_onto
step n i xs h = rw (drop-cons xs i 0 h, add-one) refl

pub goes_on : (n i m : ℕ) (xs : List ℕ) → i < length xs →
    Some m ≡ with_digit n (get_or xs i 0) →
    digits_onto n (drop i xs) ≡ digits_onto m (drop (i + 1) xs)
goes_on n i m xs h is = step n i xs h ∙ rw (← is) refl

pub ends_here : (n i : ℕ) (xs : List ℕ) → i < length xs →
    None ≡ with_digit n (get_or xs i 0) → digits_onto n (drop i xs) ≡ None
ends_here n i xs h none = step n i xs h ∙ rw (← none) refl

pub all_read : (n i : ℕ) (xs : List ℕ) → length xs ≤ i → digits_onto n (drop i xs) ≡ Some n
unfolding digits_onto
all_read n i xs le = rw (drop_all i xs le) refl
