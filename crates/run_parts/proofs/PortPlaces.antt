-- Ports that differ have one place each.
use Rattle.std.proofs.Common.{◌≡◌, ◌≢◌, ◌⊎◌, ◌<◌, ◌+◌, ◌∙◌, ℕ, suc, List, [], ◌∷◌}
use Rattle.std.proofs.Common.{true, false, refl, sym, ap, inl, inr, arith, length, get_or}
use Rattle.std.specs.Prelude.{◌==◌, nat_eq, AllPairs}
use Rattle.std.specs.List.{list_any}
use Rattle.std.proofs.lemmas.Bool.{cases_Bool, eq-eqb, eqb-true, ne_eqb}
use Rattle.inspector_script.specs.Scripts.{ScriptValue}
use Rattle.run_parts.specs.Ports.{place_in}
use Rattle.run_parts.specs.Ports.{is_port, AreApart, ArePlaced, HavePlaces}

none_is : (p : ℕ) (ps : List ℕ) →
    ((j d : ℕ) → j < length ps → p ≢ get_or ps j d) → list_any (nat_eq p) ps ≡ false
none_is p [] none = refl
none_is p (q ∷ qs) none =
    rw (ne_eqb p q (none 0 0 (omega arith)))
    (none_is p qs (λ j d less. none (suc j) d (omega (arith, less))))

pub apart_so : (ps : List ℕ) → AllPairs (λ p q. p ≢ q) ps → AreApart ps
apart_so [] pairs = tt
apart_so (p ∷ ps) pairs = (
  none_is p ps (λ j d less. pairs 0 (suc j) d (omega arith) (omega (arith, less))),
  apart_so ps (λ i j d before within.
      pairs (suc i) (suc j) d (omega (arith, before)) (omega (arith, within))),
)

module _ (script : ScriptValue) (f : ℕ → ℕ) where
  placed_from : (place : ℕ) (ps : List ℕ) → AreApart ps →
      ((p : ℕ) → list_any (nat_eq p) ps ≡ true →
      (f p ≡ place + place_in p ps) × (is_port script p ≡ true)) →
      ArePlaced script f place ps
  placed_from place [] apart at = tt
  placed_from place (p ∷ ps) apart at =
      let same : (p == p) ≡ true = eq-eqb p p refl in
      let here = at p (rw same refl) in
      let first : place_in p (p ∷ ps) ≡ 0 = rw same refl in
      (omega (arith, here.0, first), here.1, placed_from (place + 1) ps apart.1 later)
    where
      later : (q : ℕ) → list_any (nat_eq q) ps ≡ true →
          (f q ≡ (place + 1) + place_in q ps) × (is_port script q ≡ true)
      later q within = by (cases_Bool (q == p))
        where
          by : ((q == p) ≡ true) ⊎ ((q == p) ≡ false) →
              (f q ≡ (place + 1) + place_in q ps) × (is_port script q ≡ true)
          by (inl h) =
              let wrong : true ≡ false = sym within
              ∙ ap (λ k. list_any (nat_eq k) ps) (eqb-true q p h) ∙ apart.0 in
              absurd (cc)
          by (inr h) =
              let there : list_any (nat_eq q) (p ∷ ps) ≡ true = rw h within in
              let next : place_in q (p ∷ ps) ≡ suc (place_in q ps) = rw h refl in
              let is = at q there in
              (omega (arith, is.0, next), is.1)

pub have_places : (script : ScriptValue) → AllPairs (λ p q. p ≢ q) script.ports →
    HavePlaces script
have_places script differ = record {
  apart = apart_so script.ports differ;
  placed = placed_from script (λ p. place_in p script.ports) 0 script.ports
      (apart_so script.ports differ) (λ p i. (omega arith, i));
}
