-- The contents of a row at the places of their kinds, and one more of them.
use Rattle.std.proofs.Common.{◌≡◌, ◌≢◌, ℕ, zero, suc, ◌<◌, nat_eq, List, [], ◌∷◌}
use Rattle.std.proofs.Common.{length, Option, Some, None, slice_set, refl, sym, ap, ◌∙◌, subst}
use Rattle.std.proofs.Common.{inl, inr, replicate, arith}
use Rattle.std.specs.Prelude.{option_map}
use Rattle.std.proofs.lemmas.Bool.{cases_Bool, eqb-true, eqb-false}
use Rattle.netlink_codec.specs.Attributes.{Attribute}
use Rattle.nfqa_headers.specs.AttributeReading.{content_at, later, last_content}
use Rattle.nfqa_headers.proofs.LastContent.{walked-own, walked-other}

-- where nothing was put there is no content
pub none-there : {A : Type 0} (count kind : ℕ) →
    content_at {A = A} (replicate count None) kind ≡ None
none-there zero kind = refl
none-there (suc count) zero = refl
none-there (suc count) (suc kind) = none-there count kind

-- what was put at a place stands there
put-here : {A : Type 0} (xs : List (Option A)) (place : ℕ) (x : Option A) →
    place < length xs → content_at (slice_set xs place x) place ≡ x
put-here [] place x within = absurd (omega (arith, within))
put-here (y ∷ xs) zero x within = refl
put-here (y ∷ xs) (suc place) x within = put-here xs place x (omega (arith, within))

-- and changes no other place
put-elsewhere : {A : Type 0} (xs : List (Option A)) (place other : ℕ) (x : Option A) →
    other ≢ place → content_at (slice_set xs place x) other ≡ content_at xs other
put-elsewhere [] place other x apart = refl
put-elsewhere (y ∷ xs) zero zero x apart = absurd (apart refl)
put-elsewhere (y ∷ xs) zero (suc other) x apart = refl
put-elsewhere (y ∷ xs) (suc place) zero x apart = refl
put-elsewhere (y ∷ xs) (suc place) (suc other) x apart =
    put-elsewhere xs place other x (λ same. apart (ap suc same))

pub put-length : {A : Type 0} (xs : List A) (place : ℕ) (x : A) →
    length (slice_set xs place x) ≡ length xs
put-length [] place x = refl
put-length (y ∷ xs) zero x = refl
put-length (y ∷ xs) (suc place) x = ap suc (put-length xs place x)

-- One step of the walk: with an attribute's content put at its kind's place, the content of each
-- kind counts unless a later one stands in the rest.
pub put-walked : {A : Type 0} (seen : A → List ℕ) (xs : List (Option A)) (a : Attribute) (x : A)
    (rest : List Attribute) (kind : ℕ) → seen x ≡ a.content → a.kind < length xs →
    later (last_content kind rest)
    (option_map seen (content_at (slice_set xs a.kind (Some x)) kind))
    ≡ later (last_content kind (a ∷ rest)) (option_map seen (content_at xs kind))
put-walked seen xs a x rest kind is within =
    let so_far : Option (List ℕ) = option_map seen (content_at xs kind) in
    let put : ℕ → Option (List ℕ) =
    λ k. option_map seen (content_at (slice_set xs a.kind (Some x)) k) in
    elim (cases_Bool (nat_eq a.kind kind)) [
      | inl own ↦ let same : a.kind ≡ kind = eqb-true a.kind kind own in
          let here : put kind ≡ Some a.content =
          subst (λ (k : ℕ). put k ≡ Some a.content) same
          (ap (option_map seen) (put-here xs a.kind (Some x) within) ∙ ap Some is) in
          ap (later (last_content kind rest)) here ∙ sym (walked-own kind a rest so_far same)
      | inr not_ ↦ let other : a.kind ≢ kind = eqb-false a.kind kind not_ in
          ap (λ o. later (last_content kind rest) (option_map seen o))
          (put-elsewhere xs a.kind kind (Some x) (λ same. other (sym same)))
          ∙ sym (walked-other kind a rest so_far other)
    ]
