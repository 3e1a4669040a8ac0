-- Words that are read, and the words that are written: numbers, names, and what is cut in two.
use Rattle.std.proofs.Common.{◌≡◌, ℕ, ◌*◌, ◌+◌, Bool, true, false, cond, not, ◌&&◌, ◌⊎◌, inl}
use Rattle.std.proofs.Common.{inr, eqb, ltb, List, [], ◌∷◌, ◌++◌, length, Option, Some, None, All}
use Rattle.std.proofs.Common.{◌∙◌, refl, sym, ap, subst, arith, eq-eqb}
use Rattle.std.specs.Prelude.{◌↔◌, ◌^◌, bytes_eq, is_none, option_map}
use Rattle.std.proofs.lemmas.Bool.{and_parts, eqb-true, false_from_ne_true, false≢true, lt-ltb}
use Rattle.std.proofs.lemmas.Bool.{ltb-true}
use Rattle.std.proofs.lemmas.List.Elements.{All-head, All-tail}
use Rattle.std.proofs.lemmas.Option.{cond_some, none-some, same_Some}
use Rattle.std.proofs.lemmas.Slice.Eq.{bytes_eq-Decides}
use Rattle.text_lines.specs.Words.{◌>>=◌, cut_at, cut_at_word, first_word, words_after}
use Rattle.text_lines.specs.Digits.{below, decimal, decimal_below, digit_in, digits_onto, number}
use Rattle.text_lines.specs.Numerals.{IsNumeral}
use Rattle.text_lines.specs.Hexadecimal.{IsSpelled, bytes_of}
use Rattle.script_lines.specs.AskLine.{only_word}
use Rattle.script_lines.specs.Grammar.{IsBelow, IsName}

-- what is read of a word is what it spells
pub record Laws : Type 0 where
  pub numerals : (word : List ℕ) (n : ℕ) → (decimal word ≡ Some n) ↔ IsNumeral word n
  pub bytes : (most : ℕ) (word bytes : List ℕ) →
      (bytes_of most word ≡ Some bytes) ↔ IsSpelled most word bytes

-- ---- options and tests

pub bind_some : {A B : Type 0} (o : Option A) (f : A → Option B) (y : B) → (o >>= f) ≡ Some y →
    (x : A) × (o ≡ Some x) × (f x ≡ Some y)
bind_some None f y e = absurd (none-some y e)
bind_some (Some x) f y e = (x, refl, e)

pub map_some : {A B : Type 0} (f : A → B) (o : Option A) (y : B) → option_map f o ≡ Some y →
    (x : A) × (o ≡ Some x) × (f x ≡ y)
map_some f None y e = absurd (none-some y e)
map_some f (Some x) y e = (x, refl, same_Some (f x) y e)

pub chosen : {A : Type 0} (b : Bool) (x y z : A) → cond b x y ≡ z →
    ((b ≡ true) × (x ≡ z)) ⊎ ((b ≡ false) × (y ≡ z))
chosen true x y z e = inl (refl, e)
chosen false x y z e = inr (refl, e)

pub taken : {A : Type 0} (b : Bool) (x y : A) → b ≡ true → cond b x y ≡ x
taken true x y e = refl
taken false x y e = absurd (false≢true e)

pub passed : {A : Type 0} (b : Bool) (x y : A) → b ≡ false → cond b x y ≡ y
passed true x y e = absurd (false≢true (sym e))
passed false x y e = refl

not_true : (b : Bool) → not b ≡ true → b ≡ false
not_true true e = sym e
not_true false e = refl

is_none_of : {A : Type 0} (o : Option A) → is_none o ≡ true → o ≡ None
is_none_of None e = refl
is_none_of (Some x) e = absurd (false≢true e)

pub none_left : (words : List (List ℕ)) → eqb (length words) 0 ≡ true → words ≡ []
none_left [] e = refl
none_left (w ∷ ws) e =
    let never : length (w ∷ ws) ≡ 0 = eqb-true (length (w ∷ ws)) 0 e in absurd (omega arith)

-- ---- words

pub same_word : (w v : List ℕ) → bytes_eq w v ≡ true → w ≡ v
same_word w v e = (bytes_eq-Decides w v).0 e

pub word_is : (w v : List ℕ) → w ≡ v → bytes_eq w v ≡ true
word_is w v e = (bytes_eq-Decides w v).1 e

-- a word that is read as something is no word that isn't
pub other_word : {A : Type 0} (read : List ℕ → Option A) (word name : List ℕ) (x : A) →
    read word ≡ Some x → read name ≡ None → bytes_eq word name ≡ false
other_word read word name x is none =
    false_from_ne_true (bytes_eq word name)
    (λ same. none-some x (sym none ∙ sym (ap read (same_word word name same)) ∙ is))

pub words_after_some : (word : List ℕ) (words rest : List (List ℕ)) →
    words_after word words ≡ Some rest → words ≡ word ∷ rest
words_after_some word [] rest e = absurd (none-some rest e)
words_after_some word (w ∷ ws) rest e =
    let parts = cond_some (bytes_eq w word) ws rest e in
    let same : w ≡ word = same_word w word parts.0 in
    rw (same, parts.1) refl

pub first_word_some : (words : List (List ℕ)) (x : List ℕ × List (List ℕ)) →
    first_word words ≡ Some x → words ≡ x.0 ∷ x.1
first_word_some [] x e = absurd (none-some x e)
first_word_some (w ∷ ws) x e =
    ap (λ (y : List ℕ × List (List ℕ)). y.0 ∷ y.1) (same_Some (w, ws) x e)

pub only_word_some : (words : List (List ℕ)) (word : List ℕ) → only_word words ≡ Some word →
    words ≡ word ∷ []
only_word_some words word e =
    let first = bind_some (first_word words) _ word e in
    let parts = cond_some (eqb (length (first.0).1) 0) (first.0).0 word first.2 in
    first_word_some words first.0 first.1
    ∙ ap (λ ws. (first.0).0 ∷ ws) (none_left (first.0).1 parts.0)
    ∙ ap (λ w. w ∷ []) parts.1

-- ---- numbers

pub below_some : Laws → (limit : ℕ) (word : List ℕ) (n : ℕ) →
    decimal_below limit word ≡ Some n → IsBelow limit word n
below_some laws limit word n e =
    let wide = bind_some (decimal word) (below limit) n e in
    let parts = cond_some (ltb wide.0 limit) wide.0 n wide.2 in
    subst (IsBelow limit word) parts.1
    ((laws.numerals word wide.0).0 wide.1, ltb-true wide.0 limit parts.0)

pub number_again : Laws → (word : List ℕ) (n : ℕ) → IsNumeral word n → decimal word ≡ Some n
number_again laws word n h = (laws.numerals word n).1 h

pub below_again : Laws → (limit : ℕ) (word : List ℕ) (n : ℕ) → IsBelow limit word n →
    decimal_below limit word ≡ Some n
below_again laws limit word n h =
    ap (λ o. o >>= below limit) (number_again laws word n h.0)
    ∙ taken (ltb n limit) (Some n) None (lt-ltb n limit h.1)

-- ---- names

-- the number that a name stands for, else another
abbrev pub named : List (List ℕ × ℕ) → List ℕ → Option ℕ → Option ℕ
named [] word other = other
named (entry ∷ entries) word other =
    cond (bytes_eq word entry.0) (Some entry.1) (named entries word other)

pub named_some : (entries : List (List ℕ × ℕ)) (word : List ℕ) (other : Option ℕ) (n : ℕ) →
    named entries word other ≡ Some n → IsName entries word n ⊎ (other ≡ Some n)
named_some [] word other n e = inr e
named_some (entry ∷ entries) word other n e =
    elim (chosen (bytes_eq word entry.0) (Some entry.1) (named entries word other) (Some n) e) [
      | inl h ↦ inl (inl (same_word word entry.0 h.0, sym (same_Some entry.1 n h.1)))
      | inr h ↦ elim (named_some entries word other n h.1) [ inl g ↦ inl (inr g) | inr g ↦ inr g ]
    ]

-- no name is this word
abbrev pub differ_from : List ℕ → List (List ℕ × ℕ) → Bool
differ_from word [] = true
differ_from word (entry ∷ entries) = not (bytes_eq entry.0 word) && differ_from word entries

abbrev pub are_apart : List (List ℕ × ℕ) → Bool
are_apart [] = true
are_apart (entry ∷ entries) = differ_from entry.0 entries && are_apart entries

pub name_differs : (entries : List (List ℕ × ℕ)) (word other : List ℕ) (n : ℕ) →
    differ_from other entries ≡ true → IsName entries word n → bytes_eq word other ≡ false
name_differs [] word other n apart h = absurd h
name_differs (entry ∷ entries) word other n apart (inl h) =
    let parts = and_parts (not (bytes_eq entry.0 other)) (differ_from other entries) apart in
    ap (λ w. bytes_eq w other) h.0 ∙ not_true (bytes_eq entry.0 other) parts.0
name_differs (entry ∷ entries) word other n apart (inr h) =
    let parts = and_parts (not (bytes_eq entry.0 other)) (differ_from other entries) apart in
    name_differs entries word other n parts.1 h

pub named_again : (entries : List (List ℕ × ℕ)) (word : List ℕ) (other : Option ℕ) (n : ℕ) →
    are_apart entries ≡ true → IsName entries word n → named entries word other ≡ Some n
named_again [] word other n apart h = absurd h
named_again (entry ∷ entries) word other n apart (inl h) =
    taken (bytes_eq word entry.0) (Some entry.1) (named entries word other)
    (word_is word entry.0 h.0) ∙ ap (λ v. Some v) (sym h.1)
named_again (entry ∷ entries) word other n apart (inr h) =
    let parts = and_parts (differ_from entry.0 entries) (are_apart entries) apart in
    passed (bytes_eq word entry.0) (Some entry.1) (named entries word other)
    (name_differs entries word entry.0 n parts.0 h)
    ∙ named_again entries word other n parts.1 h

-- no name is read as anything
abbrev pub none_read : {A : Type 0} → (List ℕ → Option A) → List (List ℕ × ℕ) → Bool
none_read read [] = true
none_read read (entry ∷ entries) = is_none (read entry.0) && none_read read entries

-- a word that is read as something is no name
pub named_read : {A : Type 0} (read : List ℕ → Option A) (entries : List (List ℕ × ℕ))
    (word : List ℕ) (other : Option ℕ) (x : A) → none_read read entries ≡ true →
    read word ≡ Some x → named entries word other ≡ other
named_read read [] word other x none is = refl
named_read read (entry ∷ entries) word other x none is =
    let parts = and_parts (is_none (read entry.0)) (none_read read entries) none in
    passed (bytes_eq word entry.0) (Some entry.1) (named entries word other)
    (other_word read word entry.0 x is (is_none_of (read entry.0) parts.0))
    ∙ named_read read entries word other x parts.1 is

-- ---- a word cut in two

pub cut_some : (c : ℕ) (word : List ℕ) (parts : List ℕ × List ℕ) → cut_at c word ≡ Some parts →
    word ≡ parts.0 ++ c ∷ parts.1
cut_some c [] parts e = absurd (none-some parts e)
cut_some c (b ∷ bs) parts e =
    elim (chosen (eqb b c) _ _ (Some parts) e) [
      | inl h ↦ subst (λ (x : List ℕ × List ℕ). b ∷ bs ≡ x.0 ++ c ∷ x.1) (same_Some _ parts h.1)
          (ap (λ d. d ∷ bs) (eqb-true b c h.0))
      | inr h ↦ let later = map_some _ (cut_at c bs) parts h.1 in
          subst (λ (x : List ℕ × List ℕ). b ∷ bs ≡ x.0 ++ c ∷ x.1) later.2
          (ap (λ ds. b ∷ ds) (cut_some c bs later.0 later.1))
    ]

map_none : {A B : Type 0} (f : A → B) (o : Option A) → option_map f o ≡ None → o ≡ None
map_none f None e = refl
map_none f (Some x) e = absurd (none-some (f x) (sym e))

pub cut_front : (c : ℕ) (word rest : List ℕ) → cut_at c word ≡ None →
    cut_at c (word ++ c ∷ rest) ≡ Some (word, rest)
cut_front c [] rest none = taken (eqb c c) _ _ (eq-eqb c c refl)
cut_front c (b ∷ bs) rest none =
    elim (chosen (eqb b c) _ _ None none) [
      | inl h ↦ absurd (none-some ([], bs) (sym h.1))
      | inr h ↦ passed (eqb b c) _ _ h.0
          ∙ ap (λ o. option_map (λ (parts : List ℕ × List ℕ). (b ∷ parts.0, parts.1)) o)
          (cut_front c bs rest (map_none _ (cut_at c bs) h.1))
    ]

-- a number has no such byte
no_mark : (c radix m n : ℕ) (word : List ℕ) → digit_in radix c ≡ None →
    digits_onto radix m word ≡ Some n → cut_at c word ≡ None
unfolding digits_onto
no_mark c radix m n [] none e = refl
no_mark c radix m n (b ∷ bs) none e =
    let digit = bind_some (digit_in radix b) _ n e in
    let apart : eqb b c ≡ false = false_from_ne_true (eqb b c)
    (λ same. none-some digit.0 (sym none ∙ ap (digit_in radix) (sym (eqb-true b c same))
    ∙ digit.1)) in
    passed (eqb b c) _ _ apart
    ∙ ap (λ o. option_map (λ (parts : List ℕ × List ℕ). (b ∷ parts.0, parts.1)) o)
    (no_mark c radix (m * radix + digit.0) n bs none digit.2)

pub number_uncut : (c : ℕ) (word : List ℕ) (n : ℕ) → digit_in 10 c ≡ None →
    decimal word ≡ Some n → cut_at c word ≡ None
unfolding decimal number
number_uncut c word n none e =
    elim (chosen _ None (number 10 word) (Some n) e) [
      | inl h ↦ absurd (none-some n h.1)
      | inr h ↦
          let all = bind_some (cond (eqb (length word) 0) None (digits_onto 10 0 word))
          (below (2 ^ 32)) n h.1 in
          elim (chosen (eqb (length word) 0) None (digits_onto 10 0 word) (Some all.0) all.1) [
            | inl g ↦ absurd (none-some all.0 g.1)
            | inr g ↦ no_mark c 10 0 all.0 word none g.1
          ]
    ]

-- ---- words cut in two

-- a word that stands nowhere in these words
abbrev pub IsWithout : List ℕ → List (List ℕ) → Type 0
IsWithout mark words = All (λ v. v ≡ mark → ⊥) words

pub is_other : (w mark : List ℕ) → bytes_eq w mark ≡ false → w ≡ mark → ⊥
is_other w mark e same = false≢true (sym e ∙ word_is w mark same)

not_word : (w mark : List ℕ) → (w ≡ mark → ⊥) → bytes_eq w mark ≡ false
not_word w mark other = false_from_ne_true (bytes_eq w mark) (λ e. other (same_word w mark e))

pub cut_word_some : (mark : List ℕ) (ws : List (List ℕ))
    (parts : List (List ℕ) × List (List ℕ)) → cut_at_word mark ws ≡ Some parts →
    ws ≡ parts.0 ++ mark ∷ parts.1
cut_word_some mark [] parts e = absurd (none-some parts e)
cut_word_some mark (w ∷ ws) parts e =
    let Means : List (List ℕ) × List (List ℕ) → Type 0 = λ x. w ∷ ws ≡ x.0 ++ mark ∷ x.1 in
    elim (chosen (bytes_eq w mark) _ _ (Some parts) e) [
      | inl h ↦ subst Means (same_Some _ parts h.1) (ap (λ v. v ∷ ws) (same_word w mark h.0))
      | inr h ↦ let later = map_some _ (cut_at_word mark ws) parts h.1 in
          subst Means later.2 (ap (λ vs. w ∷ vs) (cut_word_some mark ws later.0 later.1))
    ]

pub without_cut : (mark : List ℕ) (ws : List (List ℕ)) → IsWithout mark ws →
    cut_at_word mark ws ≡ None
without_cut mark [] h = refl
without_cut mark (w ∷ ws) h =
    passed (bytes_eq w mark) _ _ (not_word w mark (All-head (λ v. v ≡ mark → ⊥) w ws h))
    ∙ ap (λ o. option_map (λ (parts : List (List ℕ) × List (List ℕ)). (w ∷ parts.0, parts.1)) o)
    (without_cut mark ws (All-tail (λ v. v ≡ mark → ⊥) w ws h))

pub front_cut : (mark : List ℕ) (front rest : List (List ℕ)) → IsWithout mark front →
    cut_at_word mark (front ++ mark ∷ rest) ≡ Some (front, rest)
front_cut mark [] rest h = taken (bytes_eq mark mark) _ _ (word_is mark mark refl)
front_cut mark (w ∷ ws) rest h =
    passed (bytes_eq w mark) _ _ (not_word w mark (All-head (λ v. v ≡ mark → ⊥) w ws h))
    ∙ ap (λ o. option_map (λ (parts : List (List ℕ) × List (List ℕ)). (w ∷ parts.0, parts.1)) o)
    (front_cut mark ws rest (All-tail (λ v. v ≡ mark → ⊥) w ws h))
