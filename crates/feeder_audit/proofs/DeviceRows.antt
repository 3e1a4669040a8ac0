-- Rows where at most the first number can be.
use Rattle.std.proofs.Common.{◌≡◌, ℕ, zero, suc, ◌+◌, List, [], ◌∷◌, Bool, true, false, refl, sym}
use Rattle.std.proofs.Common.{ap, ◌∙◌}
use Rattle.std.proofs.Common.{arith, Some, None}
use Rattle.std.specs.Prelude.{◌&&◌, ◌==◌, slice_get}
use Rattle.std.proofs.lemmas.Bool.{and_right, eq-eqb, ne_eqb}
use Rattle.std.proofs.lemmas.Option.{same_Some}
use Rattle.script_lines.specs.declared.line.Down.{Down}
use Rattle.feeder_audit.specs.Fitting.{Row}
use Rattle.feeder_audit.specs.Rows.{only, none, flag_at, fallen, IsFallen}
use Rattle.feeder_audit.specs.declared.ways.Ways.TheVariants.{Nowhere, Here}

-- from a number on none can be
none_fallen : (device : ℕ) (ds : List Down) (row : Row) (at : ℕ) →
    ((k : ℕ) → row (at + k) ≡ false) → (k : ℕ) → flag_at (fallen device ds row at) k ≡ false
none_fallen device [] row at never k = refl
none_fallen device (d ∷ ds) row at never zero =
    and_right (d.device == device) (row at)
    (ap row (let same : at ≡ at + 0 = omega arith in same) ∙ never 0)
none_fallen device (d ∷ ds) row at never (suc k) =
    none_fallen device ds row (at + 1)
    (λ j. ap row (let same : (at + 1) + j ≡ at + (1 + j) = omega arith in same) ∙ never (1 + j)) k

pub nowhere_falls : (device : ℕ) (ds : List Down) → IsFallen device ds none Nowhere
nowhere_falls device ds k = sym (none_fallen device ds none 0 (λ j. refl) k)

here_falls : (device : ℕ) (d : Down) (ds : List Down) (k : ℕ) →
    only (d.device == device) k ≡ flag_at (fallen device (d ∷ ds) (only true) 0) k
here_falls device d ds zero = sym (by (d.device == device))
  where
    by : (b : Bool) → (b && true) ≡ b
    by true = refl
    by false = refl
here_falls device d ds (suc k) =
    sym (none_fallen device ds (only true) 1
    (λ j. ap (only true) (let same : 1 + j ≡ suc j = omega arith in same)) k)

-- by the first line that is left, or by none
pub first_falls : (device : ℕ) (d : Down) (ds : List Down) → Some d ≡ slice_get ds 0 →
    d.device ≡ device → IsFallen device ds (only true) Here
first_falls device d [] found same k = absurd (let wrong : Some d ≡ None = found in cc)
first_falls device d (x ∷ ds) found same k =
    ap (λ b. only b k) (sym (eq-eqb x.device device
    (ap (λ (y : Down). y.device) (same_Some x d (sym found)) ∙ same)))
    ∙ here_falls device x ds k

off : (j : ℕ) → false ≡ only false j
off zero = refl
off (suc j) = refl

pub first_stays : (device : ℕ) (d : Down) (ds : List Down) → Some d ≡ slice_get ds 0 →
    (d.device ≡ device → ⊥) → IsFallen device ds (only true) Nowhere
first_stays device d [] found other k = absurd (let wrong : Some d ≡ None = found in cc)
first_stays device d (x ∷ ds) found other k =
    off k
    ∙ ap (λ b. only b k) (sym (ne_eqb x.device device (λ same. other
    (ap (λ (y : Down). y.device) (same_Some d x found) ∙ same))))
    ∙ here_falls device x ds k
