-- The frames of a share.
use Rattle.std.proofs.Common.{◌≡◌, ◌<◌, ◌≤◌, ◌+◌, ◌-◌, ◌*◌, ◌/◌, ◌%◌, ℕ, suc, refl, sym, ap, ◌∙◌}
use Rattle.std.proofs.Common.{arith, inl, inr, Bool, true, false}
use Rattle.std.specs.Prelude.{◌==◌, ◌||◌, nat_lt}
use Rattle.std.proofs.lemmas.Bool.{cases_Bool, eqb-true, eq-eqb, ltb-true, ltb-false}
use Rattle.std.proofs.lemmas.Nat.{div-add-mod', mod-mul-add, mod_below}
use Rattle.run_parts.specs.Feeder.{is_share}
use Rattle.feeder_set.specs.declared.share.Share.{Share}
use Rattle.feeder_set.specs.Shares.{IsNextOf}

not_zero : (n : ℕ) → 1 ≤ n → (n == 0) ≡ false
not_zero n some =
    elim (cases_Bool (n == 0)) [
      | inl h ↦ absurd (omega (arith, some, eqb-true n 0 h))
      | inr h ↦ h
    ]

-- of a frame, whose numbers count from 1
shared : (feeders f n : ℕ) → 1 ≤ n → is_share feeders f n ≡ ((n - 1) % feeders == f)
shared feeders f n some = ap (λ (b : Bool). b || ((n - 1) % feeders == f)) (not_zero n some)

pub in_one : (feeders n : ℕ) → 1 ≤ feeders → 1 ≤ n →
    (f : ℕ) × (f < feeders) × (is_share feeders f n ≡ true)
in_one feeders n some counted = (
  (n - 1) % feeders,
  mod_below (n - 1) feeders some,
  shared feeders ((n - 1) % feeders) n counted
      ∙ eq-eqb ((n - 1) % feeders) ((n - 1) % feeders) refl,
)

pub in_no_other : (feeders f g n : ℕ) → 1 ≤ n → is_share feeders f n ≡ true →
    is_share feeders g n ≡ true → f ≡ g
in_no_other feeders f g n some one two =
    sym (eqb-true ((n - 1) % feeders) f (sym (shared feeders f n some) ∙ one))
    ∙ eqb-true ((n - 1) % feeders) g (sym (shared feeders g n some) ∙ two)

pub next_is_own : (s : Share) (next : ℕ) → IsNextOf s next →
    is_share s.feeders s.number next ≡ true
next_is_own s next is =
    shared s.feeders s.number next is.counted
    ∙ eq-eqb ((next - 1) % s.feeders) s.number is.own

-- a number of another rest is in another share
pub in_another : (feeders f n rest : ℕ) → 1 ≤ n → (n - 1) % feeders ≡ rest → (rest ≡ f → ⊥) →
    is_share feeders f n ≡ false
in_another feeders f n rest some is differs =
    shared feeders f n some
    ∙ elim (cases_Bool ((n - 1) % feeders == f)) [
      | inl h ↦ absurd (differs (sym is ∙ eqb-true ((n - 1) % feeders) f h))
      | inr h ↦ h
    ]

-- the rest of a sum
rest_is : (q w b n : ℕ) → n ≡ q * w + b → b < w → n % w ≡ b
rest_is q w b n is few = ap (λ k. k % w) is ∙ mod-mul-add q w b few

row_more : (q w : ℕ) → suc q * w ≡ q * w + w
row_more q w = omega arith

pub before_first : (s : Share) (n : ℕ) → s.number < s.feeders → 1 ≤ n → n ≤ s.number →
    is_share s.feeders s.number n ≡ false
before_first s n number some most =
    in_another s.feeders s.number n (n - 1) some
    (rest_is 0 s.feeders (n - 1) (n - 1) (omega arith) (omega (arith, most, number)))
    (λ same. absurd (omega (arith, same, some, most)))

next_own : (s : Share) (next : ℕ) → IsNextOf s next →
    (next + s.feeders - 1) % s.feeders ≡ s.number
next_own s next is =
    let w = s.feeders in
    let q = (next - 1) / w in
    rest_is (suc q) w s.number (next + w - 1)
    (omega (arith, is.counted, div-add-mod' (next - 1) w, is.own, row_more q w)) is.number

-- the frame after the next is one of the share too
pub then_next : (s : Share) (next : ℕ) → IsNextOf s next → IsNextOf s (next + s.feeders)
then_next s next is = record {
  some = is.some;
  few = is.few;
  number = is.number;
  counted = omega (arith, is.counted);
  own = next_own s next is;
}

pub between_two : (s : Share) (next n : ℕ) → IsNextOf s next → next < n → n < next + s.feeders →
    is_share s.feeders s.number n ≡ false
between_two s next n is more few =
    elim (cases_Bool (nat_lt (s.number + (n - next)) s.feeders)) [
      | inl h ↦ (let below : s.number + (n - next) < s.feeders =
          ltb-true (s.number + (n - next)) s.feeders h in
          in_another s.feeders s.number n (s.number + (n - next)) (omega (arith, more))
          (rest_is q s.feeders (s.number + (n - next)) (n - 1)
          (omega (arith, is.counted, div-add-mod' (next - 1) s.feeders, is.own, more)) below)
          (λ same. absurd (omega (arith, same, more))))
      | inr h ↦ (let above : s.feeders ≤ s.number + (n - next) =
          ltb-false (s.number + (n - next)) s.feeders h in
          in_another s.feeders s.number n (s.number + (n - next) - s.feeders)
          (omega (arith, more))
          (rest_is (suc q) s.feeders (s.number + (n - next) - s.feeders) (n - 1)
          (omega (
            arith,
            is.counted,
            div-add-mod' (next - 1) s.feeders,
            is.own,
            more,
            row_more q s.feeders,
            above,
          ))
          (omega (arith, is.number, more, few, above)))
          (λ same. absurd (omega (arith, same, few, above, more))))
    ]
  where
    q : ℕ
    q = (next - 1) / s.feeders
