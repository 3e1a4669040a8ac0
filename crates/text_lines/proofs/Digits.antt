-- What is left of a number's digits gives the same number, and one that is too large stays so.
use Rattle.std.proofs.Common.{◌≡◌, ℕ, suc, ◌+◌, ◌*◌, ◌^◌, ◌<◌, ◌≤◌, List, [], ◌∷◌, length, get_or}
use Rattle.std.proofs.Common.{drop, Option, Some, None, ◌∙◌, refl, sym, ap, arith, add-one}
use Rattle.std.proofs.Common.{drop-cons, ltb}
use Rattle.std.proofs.Math.Nat.{le-mul_of_pos_right}
use Rattle.std.proofs.lemmas.Bool.{le-ltb, lt-ltb}
use Rattle.std.proofs.lemmas.Bool.Decides.{nat_tests}
use Rattle.std.proofs.lemmas.Option.{cond_some}
use Rattle.std.proofs.lemmas.List.{drop_all}
use Rattle.text_lines.specs.Words.{◌>>=◌}
use Rattle.text_lines.specs.Digits.{below, digit_in, digits_onto}

-- the number that digits make of what stands before them, if it is below 2 ^ 32
abbrev pub onto : ℕ → ℕ → List ℕ → Option ℕ
onto radix n bs = digits_onto radix n bs >>= below (2 ^ 32)

grows : (radix n d : ℕ) → 1 ≤ radix → n ≤ n * radix + d
grows radix n d h = let product : n ≤ n * radix = le-mul_of_pos_right n h in omega arith

bind_none : (o : Option ℕ) (f : ℕ → Option ℕ) → ((d : ℕ) → f d ≡ None) → (o >>= f) ≡ None
bind_none None f h = refl
bind_none (Some d) f h = h d

bind_assoc : (o : Option ℕ) (f g : ℕ → Option ℕ) → ((o >>= f) >>= g) ≡ (o >>= λ d. f d >>= g)
bind_assoc None f g = refl
bind_assoc (Some d) f g = refl

pub onto-too_large : (radix n : ℕ) (bs : List ℕ) → 1 ≤ radix → 2 ^ 32 ≤ n → onto radix n bs ≡ None
unfolding digits_onto
onto-too_large radix n [] h large = rw (le-ltb n (2 ^ 32) large) refl
onto-too_large radix n (b ∷ bs) h large =
    bind_assoc (digit_in radix b) (λ d. digits_onto radix (n * radix + d) bs) (below (2 ^ 32))
    ∙ bind_none (digit_in radix b) (λ d. onto radix (n * radix + d) bs)
    (λ d. onto-too_large radix (n * radix + d) bs h (omega (arith, grows radix n d h)))

pub onto-step : (radix n i : ℕ) (xs : List ℕ) → i < length xs →
    onto radix n (drop i xs) ≡ (digit_in radix (get_or xs i 0) >>= λ d. onto radix (n * radix + d)
    (drop (i + 1) xs))
unfolding digits_onto
onto-step radix n i xs h =
    rw (drop-cons xs i 0 h, add-one)
    (bind_assoc (digit_in radix (get_or xs i 0))
    (λ d. digits_onto radix (n * radix + d) (drop (suc i) xs)) (below (2 ^ 32)))

below_is : (n m : ℕ) → Some m ≡ below (2 ^ 32) n → n ≡ m
below_is n m e = (cond_some (ltb n (2 ^ 32)) n m (sym e)).1

pub onto-digit : (radix n i d m : ℕ) (xs : List ℕ) → i < length xs →
    Some d ≡ digit_in radix (get_or xs i 0) → Some m ≡ below (2 ^ 32) (n * radix + d) →
    onto radix n (drop i xs) ≡ onto radix m (drop (i + 1) xs)
onto-digit radix n i d m xs h is fits =
    onto-step radix n i xs h ∙ rw (← is) (ap (λ k. onto radix k (drop (i + 1) xs))
    (below_is (n * radix + d) m fits))

pub onto-no_digit : (radix n i : ℕ) (xs : List ℕ) → i < length xs →
    None ≡ digit_in radix (get_or xs i 0) → onto radix n (drop i xs) ≡ None
onto-no_digit radix n i xs h none = onto-step radix n i xs h ∙ rw (← none) refl

pub onto-no_room : (radix n i d : ℕ) (xs : List ℕ) → 1 ≤ radix → i < length xs →
    Some d ≡ digit_in radix (get_or xs i 0) → None ≡ below (2 ^ 32) (n * radix + d) →
    onto radix n (drop i xs) ≡ None
onto-no_room radix n i d xs some h is none =
    let large : 2 ^ 32 ≤ n * radix + d = grind (arith, nat_tests) in
    onto-step radix n i xs h ∙ rw (← is) (onto-too_large radix (n * radix + d) (drop (i + 1) xs)
    some large)

pub onto-end : (radix n i : ℕ) (xs : List ℕ) → length xs ≤ i → n < 2 ^ 32 →
    onto radix n (drop i xs) ≡ Some n
unfolding digits_onto
onto-end radix n i xs le fits = rw (drop_all i xs le, lt-ltb n (2 ^ 32) fits) refl
