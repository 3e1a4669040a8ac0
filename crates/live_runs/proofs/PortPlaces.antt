-- The places of a script's ports.
use Rattle.std.proofs.Common.{◌<◌, ◌∙◌, ◌∷◌, ◌≡◌, ◌⊎◌, Bool, List, [], arith, false, inl, inr}
use Rattle.std.proofs.Common.{length, refl, suc, sym, true, ℕ}
use Rattle.std.proofs.lemmas.Bool.{cases_Bool, eqb-true}
use Rattle.std.specs.List.{list_any}
use Rattle.std.specs.Prelude.{◌==◌, ◌||◌, if◌then◌else◌, nat_eq}
use Rattle.run_parts.specs.Ports.{place_in}

pub place_below : (p : ℕ) (ports : List ℕ) → list_any (nat_eq p) ports ≡ true →
    place_in p ports < length ports
place_below p [] is = absurd (cc)
place_below p (q ∷ ports) is = by (p == q) is (λ more. place_below p ports more)
  where
    by : (c : Bool) → (c || list_any (nat_eq p) ports) ≡ true →
        (list_any (nat_eq p) ports ≡ true → place_in p ports < length ports) →
        (if c then 0 else suc (place_in p ports)) < suc (length ports)
    by true is so = omega arith
    by false is so = let less = so is in omega (arith, less)

-- no two ports have one place
pub place_apart : (p q : ℕ) (ports : List ℕ) → list_any (nat_eq p) ports ≡ true →
    place_in p ports ≡ place_in q ports → p ≡ q
place_apart p q [] i same = absurd (cc)
place_apart p q (x ∷ ports) i same =
    by (cases_Bool (p == x)) (cases_Bool (q == x)) i same
    (λ in_it at. place_apart p q ports in_it at)
  where
    by : ((p == x) ≡ true) ⊎ ((p == x) ≡ false) → ((q == x) ≡ true) ⊎ ((q == x) ≡ false) →
        list_any (nat_eq p) (x ∷ ports) ≡ true →
        place_in p (x ∷ ports) ≡ place_in q (x ∷ ports) →
        (list_any (nat_eq p) ports ≡ true → place_in p ports ≡ place_in q ports → p ≡ q) → p ≡ q
    by (inl g) (inl h) i same so = eqb-true p x g ∙ sym (eqb-true q x h)
    by (inl g) (inr h) i same so =
        let one : place_in p (x ∷ ports) ≡ 0 = rw g refl in
        let two : place_in q (x ∷ ports) ≡ suc (place_in q ports) = rw h refl in
        absurd (omega (arith, same, one, two))
    by (inr g) (inl h) i same so =
        let one : place_in p (x ∷ ports) ≡ suc (place_in p ports) = rw g refl in
        let two : place_in q (x ∷ ports) ≡ 0 = rw h refl in
        absurd (omega (arith, same, one, two))
    by (inr g) (inr h) i same so =
        let one : place_in p (x ∷ ports) ≡ suc (place_in p ports) = rw g refl in
        let two : place_in q (x ∷ ports) ≡ suc (place_in q ports) = rw h refl in
        so (rw g at i) (omega (arith, same, one, two))
