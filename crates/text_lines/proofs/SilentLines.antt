-- A line whose words say nothing is one that is passed over.
use Rattle.std.proofs.Common.{◌≡◌, ℕ, Bool, true, false, cond, eqb, inl, inr, List, [], ◌∷◌, get_or}
use Rattle.std.proofs.Common.{drop, Option, Some, None, ◌∙◌, refl, sym, ap}
use Rattle.std.specs.Prelude.{◌↔◌}
use Rattle.std.proofs.lemmas.Bool.{eqb-true, false≢true}
use Rattle.text_lines.specs.Words.{IsPassedOver, byte, first_said}

-- a word that begins with this byte
byte_and_rest : (c : ℕ) (word : List ℕ) → eqb 0 c ≡ false → eqb (get_or word 0 0) c ≡ true →
    word ≡ c ∷ drop 1 word
byte_and_rest c [] other h = absurd (false≢true (sym other ∙ h))
byte_and_rest c (b ∷ bs) other h = ap (λ d. d ∷ bs) (eqb-true b c h)

comment_by : (word : List ℕ) (words : List (List ℕ)) (is : Bool) →
    eqb (get_or word 0 0) (byte "#") ≡ is →
    cond {A = Option (List ℕ × List (List ℕ))} is None (Some (word, words)) ≡ None →
    IsPassedOver (word ∷ words)
comment_by word words true is e =
    inr (drop 1 word, words, ap (λ w. w ∷ words) (byte_and_rest (byte "#") word refl is))
comment_by word words false is e = absurd (let never : ⊥ = cc in never)

passed_some : (words : List (List ℕ)) → first_said words ≡ None → IsPassedOver words
passed_some [] e = inl refl
passed_some (word ∷ words) e =
    comment_by word words (eqb (get_or word 0 0) (byte "#")) refl e

passed_again : (words : List (List ℕ)) → IsPassedOver words → first_said words ≡ None
passed_again words (inl e) = rw e refl
passed_again words (inr e) = rw e.2 refl

pub passed_over : (words : List (List ℕ)) → (first_said words ≡ None) ↔ IsPassedOver words
passed_over words = (passed_some words, passed_again words)
