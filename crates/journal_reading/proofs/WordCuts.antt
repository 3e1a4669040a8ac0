-- Words that are read, and how a text is cut behind a word.
use Rattle.std.proofs.Common.{◌≡◌, ℕ, ◌*◌, ◌+◌, ◌<◌, Bool, true, false, cond, ◌⊎◌, inl, inr, eqb}
use Rattle.std.proofs.Common.{ltb, List, [], ◌∷◌, ◌++◌, length, Option, Some, None, ◌∙◌, refl}
use Rattle.std.proofs.Common.{sym, ap, subst, eq-eqb}
use Rattle.std.specs.Prelude.{◌↔◌, ◌^◌, bytes_eq, option_map}
use Rattle.std.proofs.lemmas.Bool.{eqb-true, false_from_ne_true, false≢true, lt-ltb, ltb-true}
use Rattle.std.proofs.lemmas.Option.{cond_some, none-some, same_Some}
use Rattle.std.proofs.lemmas.Slice.Eq.{bytes_eq-Decides}
use Rattle.text_lines.specs.Words.{◌>>=◌, cut_at}
use Rattle.text_lines.specs.Digits.{below, decimal, decimal_below, digit_in, digits_onto, number}
use Rattle.text_lines.specs.Numerals.{IsNumeral}
use Rattle.text_lines.specs.Hexadecimal.{IsSpelled, bytes_of}

-- what is read of a word is what it spells
pub record Laws : Type 0 where
  pub numerals : (word : List ℕ) (n : ℕ) → (decimal word ≡ Some n) ↔ IsNumeral word n
  pub bytes : (most : ℕ) (word bytes : List ℕ) →
      (bytes_of most word ≡ Some bytes) ↔ IsSpelled most word bytes

-- ---- options and tests

pub bind_some : {A B : Type 0} (o : Option A) (f : A → Option B) (y : B) → (o >>= f) ≡ Some y →
    (x : A) × (o ≡ Some x) × (f x ≡ Some y)
bind_some None f y e = absurd (none-some y e)
bind_some (Some x) f y e = (x, refl, e)

pub map_some : {A B : Type 0} (f : A → B) (o : Option A) (y : B) → option_map f o ≡ Some y →
    (x : A) × (o ≡ Some x) × (f x ≡ y)
map_some f None y e = absurd (none-some y e)
map_some f (Some x) y e = (x, refl, same_Some (f x) y e)

pub chosen : {A : Type 0} (b : Bool) (x y z : A) → cond b x y ≡ z →
    ((b ≡ true) × (x ≡ z)) ⊎ ((b ≡ false) × (y ≡ z))
chosen true x y z e = inl (refl, e)
chosen false x y z e = inr (refl, e)

pub taken : {A : Type 0} (b : Bool) (x y : A) → b ≡ true → cond b x y ≡ x
taken true x y e = refl
taken false x y e = absurd (false≢true e)

pub passed : {A : Type 0} (b : Bool) (x y : A) → b ≡ false → cond b x y ≡ y
passed true x y e = absurd (false≢true (sym e))
passed false x y e = refl

pub same_word : (w v : List ℕ) → bytes_eq w v ≡ true → w ≡ v
same_word w v e = (bytes_eq-Decides w v).0 e

pub word_is : (w v : List ℕ) → w ≡ v → bytes_eq w v ≡ true
word_is w v e = (bytes_eq-Decides w v).1 e

pub below_some : Laws → (limit : ℕ) (word : List ℕ) (n : ℕ) →
    decimal_below limit word ≡ Some n → IsNumeral word n × (n < limit)
below_some laws limit word n e =
    let wide = bind_some (decimal word) (below limit) n e in
    let parts = cond_some (ltb wide.0 limit) wide.0 n wide.2 in
    subst (λ m. IsNumeral word m × (m < limit)) parts.1
    ((laws.numerals word wide.0).0 wide.1, ltb-true wide.0 limit parts.0)

pub number_again : Laws → (word : List ℕ) (n : ℕ) → IsNumeral word n → decimal word ≡ Some n
number_again laws word n h = (laws.numerals word n).1 h

pub below_again : Laws → (limit : ℕ) (word : List ℕ) (n : ℕ) → IsNumeral word n × (n < limit) →
    decimal_below limit word ≡ Some n
below_again laws limit word n h =
    ap (λ o. o >>= below limit) (number_again laws word n h.0)
    ∙ taken (ltb n limit) (Some n) None (lt-ltb n limit h.1)

-- ---- a text cut in two

pub cut_some : (c : ℕ) (word : List ℕ) (parts : List ℕ × List ℕ) → cut_at c word ≡ Some parts →
    word ≡ parts.0 ++ c ∷ parts.1
cut_some c [] parts e = absurd (none-some parts e)
cut_some c (b ∷ bs) parts e =
    elim (chosen (eqb b c) _ _ (Some parts) e) [
      | inl h ↦ subst (λ (x : List ℕ × List ℕ). b ∷ bs ≡ x.0 ++ c ∷ x.1) (same_Some _ parts h.1)
          (ap (λ d. d ∷ bs) (eqb-true b c h.0))
      | inr h ↦ let later = map_some _ (cut_at c bs) parts h.1 in
          subst (λ (x : List ℕ × List ℕ). b ∷ bs ≡ x.0 ++ c ∷ x.1) later.2
          (ap (λ ds. b ∷ ds) (cut_some c bs later.0 later.1))
    ]

pub map_none : {A B : Type 0} (f : A → B) (o : Option A) → option_map f o ≡ None → o ≡ None
map_none f None e = refl
map_none f (Some x) e = absurd (none-some (f x) (sym e))

pub cut_front : (c : ℕ) (word rest : List ℕ) → cut_at c word ≡ None →
    cut_at c (word ++ c ∷ rest) ≡ Some (word, rest)
cut_front c [] rest none = taken (eqb c c) _ _ (eq-eqb c c refl)
cut_front c (b ∷ bs) rest none =
    elim (chosen (eqb b c) _ _ None none) [
      | inl h ↦ absurd (none-some ([], bs) (sym h.1))
      | inr h ↦ passed (eqb b c) _ _ h.0
          ∙ ap (λ o. option_map (λ (parts : List ℕ × List ℕ). (b ∷ parts.0, parts.1)) o)
          (cut_front c bs rest (map_none _ (cut_at c bs) h.1))
    ]

-- a number has no such byte
no_mark : (c radix m n : ℕ) (word : List ℕ) → digit_in radix c ≡ None →
    digits_onto radix m word ≡ Some n → cut_at c word ≡ None
unfolding digits_onto
no_mark c radix m n [] none e = refl
no_mark c radix m n (b ∷ bs) none e =
    let digit = bind_some (digit_in radix b) _ n e in
    let apart : eqb b c ≡ false = false_from_ne_true (eqb b c)
    (λ same. none-some digit.0 (sym none ∙ ap (digit_in radix) (sym (eqb-true b c same))
    ∙ digit.1)) in
    passed (eqb b c) _ _ apart
    ∙ ap (λ o. option_map (λ (parts : List ℕ × List ℕ). (b ∷ parts.0, parts.1)) o)
    (no_mark c radix (m * radix + digit.0) n bs none digit.2)

pub number_uncut : (c : ℕ) (word : List ℕ) (n : ℕ) → digit_in 10 c ≡ None →
    decimal word ≡ Some n → cut_at c word ≡ None
unfolding decimal number
number_uncut c word n none e =
    elim (chosen _ None (number 10 word) (Some n) e) [
      | inl h ↦ absurd (none-some n h.1)
      | inr h ↦
          let all = bind_some (cond (eqb (length word) 0) None (digits_onto 10 0 word))
          (below (2 ^ 32)) n h.1 in
          elim (chosen (eqb (length word) 0) None (digits_onto 10 0 word) (Some all.0) all.1) [
            | inl g ↦ absurd (none-some all.0 g.1)
            | inr g ↦ no_mark c 10 0 all.0 word none g.1
          ]
    ]

-- no such byte stands in two texts that are put together
pub uncut_append : (c : ℕ) (front rest : List ℕ) → cut_at c front ≡ None → cut_at c rest ≡ None →
    cut_at c (front ++ rest) ≡ None
uncut_append c [] rest none e = e
uncut_append c (b ∷ bs) rest none e =
    elim (chosen (eqb b c) _ _ None none) [
      | inl h ↦ absurd (none-some ([], bs) (sym h.1))
      | inr h ↦ passed (eqb b c) _ _ h.0
          ∙ ap (λ o. option_map (λ (parts : List ℕ × List ℕ). (b ∷ parts.0, parts.1)) o)
          (uncut_append c bs rest (map_none _ (cut_at c bs) h.1) e)
    ]
