-- A rule's words are read as the grammar has them, and what the grammar has is read.
use Rattle.std.proofs.Common.{◌≡◌, ℕ, Bool, true, false, List, [], ◌∷◌, ◌++◌, Option, Some, None}
use Rattle.std.proofs.Common.{◌∙◌, refl, ap, subst}
use Rattle.std.specs.Prelude.{unwrap_or, is_some, bytes_eq, codes}
use Rattle.std.specs.Option.{option_map_or}
use Rattle.std.proofs.lemmas.Option.{cond_some, same_Some}
use Rattle.std.proofs.lemmas.Slice.Eq.{bytes_eq-Decides}
use Rattle.hook_chain.specs.declared.rule.MarkTest.{MarkTest}
use Rattle.text_lines.specs.Words.{◌>>=◌, first_word, words_after}
use Rattle.hook_chain.specs.RuleLine.{protocol_of, protocol_match, value_and_mask, mark_match}
use Rattle.hook_chain.specs.Grammar.{IsProtocolMatch, negation, IsMarkMatch}

pub bind_some : {A B : Type 0} (o : Option A) (f : A → Option B) (y : B) → (o >>= f) ≡ Some y →
    (x : A) × (o ≡ Some x) × (f x ≡ Some y)
bind_some None f y e = absurd (let no_value : ⊥ = cc in no_value)
bind_some (Some x) f y e = (x, refl, e)

pub same_word : (w v : List ℕ) → bytes_eq w v ≡ true → w ≡ v
same_word w v e = (bytes_eq-Decides w v).0 e

pub word_is : (w v : List ℕ) → w ≡ v → bytes_eq w v ≡ true
word_is w v e = (bytes_eq-Decides w v).1 e

pub words_after_some : (word : List ℕ) (words rest : List (List ℕ)) →
    words_after word words ≡ Some rest → words ≡ word ∷ rest
words_after_some word [] rest e = absurd (let no_value : ⊥ = cc in no_value)
words_after_some word (w ∷ ws) rest e =
    let parts = cond_some (bytes_eq w word) ws rest e in
    let same : w ≡ word = same_word w word parts.0 in
    rw (same, parts.1) refl

pub first_word_some : (words : List (List ℕ)) (x : List ℕ × List (List ℕ)) →
    first_word words ≡ Some x → words ≡ x.0 ∷ x.1
first_word_some [] x e = absurd (let no_value : ⊥ = cc in no_value)
first_word_some (w ∷ ws) x e =
    ap (λ (y : List ℕ × List (List ℕ)). y.0 ∷ y.1) (same_Some (w, ws) x e)

-- a part of a line, and the words after it
abbrev pub Begins : {V : Type 0} → (List (List ℕ) → V → Type 0) → List (List ℕ) →
    (V × List (List ℕ)) → Type 0
Begins Is words x = (front : List (List ℕ)) × Is front x.0 × (words ≡ front ++ x.1)

protocol_there : (words rest : List (List ℕ)) (x : Option ℕ × List (List ℕ)) →
    words ≡ codes "-p" ∷ rest → (first_word rest >>= λ word. protocol_of word.0 >>= λ protocol. Some
    (Some protocol, word.1)) ≡ Some x → Begins IsProtocolMatch words x
protocol_there words rest x is e =
    let word = bind_some (first_word rest) _ x e in
    let protocol = bind_some (protocol_of (word.0).0) _ x word.2 in
    subst (Begins IsProtocolMatch words) (same_Some _ x protocol.2) (
      codes "-p" ∷ (word.0).0 ∷ [],
      ((word.0).0, refl, protocol.1),
      is
          ∙ ap (λ ws. codes "-p" ∷ ws) (first_word_some rest word.0 word.1),
    )

protocol_by : (words : List (List ℕ)) (o : Option (List (List ℕ))) (x : Option ℕ × List (List ℕ)) →
    words_after (codes "-p") words ≡ o →
    option_map_or (λ rest. first_word rest >>= λ word. protocol_of word.0 >>= λ protocol. Some
    (Some protocol, word.1)) o (Some (None, words)) ≡ Some x → Begins IsProtocolMatch words x
protocol_by words None x is e =
    subst (Begins IsProtocolMatch words) (same_Some _ x e) ([], refl, refl)
protocol_by words (Some rest) x is e =
    protocol_there words rest x (words_after_some (codes "-p") words rest is) e

pub protocol_match_some : (words : List (List ℕ)) (x : Option ℕ × List (List ℕ)) →
    protocol_match words ≡ Some x → Begins IsProtocolMatch words x
unfolding protocol_match
protocol_match_some words x e = protocol_by words (words_after (codes "-p") words) x refl e

negation_front : (negated : Bool) (option word : List ℕ) (rest : List (List ℕ)) →
    negation negated ++ option ∷ word ∷ rest ≡ (negation negated ++ option ∷ word ∷ []) ++ rest
negation_front true option word rest = refl
negation_front false option word rest = refl

-- the words after `mark`, with the mark of negation or without
mark_there : (words rest test after_test : List (List ℕ)) (negated : Bool)
    (x : Option MarkTest × List (List ℕ)) → words ≡ codes "-m" ∷ rest → rest ≡ codes "mark" ∷ test →
    test ≡ negation negated ++ after_test →
    ((words_after (codes "--mark") after_test >>= first_word) >>= λ word. value_and_mask word.0 >>=
    λ bits. Some (Some (record { value = bits.0; mask = bits.1; negated = negated }), word.1))
    ≡ Some x → Begins IsMarkMatch words x
mark_there words rest test after_test negated x is mark test_is e =
    let word = bind_some (words_after (codes "--mark") after_test >>= first_word) _ x e in
    let option = bind_some (words_after (codes "--mark") after_test) first_word word.0 word.1 in
    let bits = bind_some (value_and_mask (word.0).0) _ x word.2 in
    let after_is : after_test ≡ codes "--mark" ∷ (word.0).0 ∷ (word.0).1 =
    words_after_some (codes "--mark") after_test option.0 option.1
    ∙ ap (λ ws. codes "--mark" ∷ ws) (first_word_some option.0 word.0 option.2)
    in
    subst (Begins IsMarkMatch words) (same_Some _ x bits.2) (
      codes "-m" ∷ codes "mark" ∷ (negation negated ++ codes "--mark" ∷ (word.0).0 ∷ []),
      ((word.0).0, refl, bits.1),
      is ∙ ap (λ ws. codes "-m" ∷ ws)
          (mark ∙ ap (λ ws. codes "mark" ∷ ws)
          (test_is ∙ ap (λ ws. negation negated ++ ws) after_is
          ∙ negation_front negated (codes "--mark") (word.0).0 (word.0).1)),
    )

mark_tested : (words rest test : List (List ℕ)) (o : Option (List (List ℕ)))
    (x : Option MarkTest × List (List ℕ)) → words ≡ codes "-m" ∷ rest → rest ≡ codes "mark" ∷ test →
    words_after (codes "!") test ≡ o →
    ((words_after (codes "--mark") (unwrap_or o test) >>= first_word) >>= λ word. value_and_mask
    word.0 >>= λ bits. Some (
      Some (record { value = bits.0; mask = bits.1; negated = is_some o }),
      word.1,
    )) ≡ Some x → Begins IsMarkMatch words x
mark_tested words rest test None x is mark o e =
    mark_there words rest test test false x is mark refl e
mark_tested words rest test (Some after_test) x is mark o e =
    mark_there words rest test after_test true x is mark
    (words_after_some (codes "!") test after_test o) e

mark_by : (words : List (List ℕ)) (o : Option (List (List ℕ)))
    (x : Option MarkTest × List (List ℕ)) → words_after (codes "-m") words ≡ o →
    option_map_or (λ rest. words_after (codes "mark") rest >>=
    λ test. (words_after (codes "--mark") (unwrap_or (words_after (codes "!") test) test) >>=
    first_word) >>= λ word. value_and_mask word.0 >>= λ bits. Some (
      Some (record {
        value = bits.0;
        mask = bits.1;
        negated = is_some (words_after (codes "!") test);
      }),
      word.1,
    )) o (Some (None, words)) ≡ Some x →
    Begins IsMarkMatch words x
mark_by words None x is e = subst (Begins IsMarkMatch words) (same_Some _ x e) ([], refl, refl)
mark_by words (Some rest) x is e =
    let test = bind_some (words_after (codes "mark") rest) _ x e in
    mark_tested words rest test.0 (words_after (codes "!") test.0) x
    (words_after_some (codes "-m") words rest is)
    (words_after_some (codes "mark") rest test.0 test.1) refl test.2

pub mark_match_some : (words : List (List ℕ)) (x : Option MarkTest × List (List ℕ)) →
    mark_match words ≡ Some x → Begins IsMarkMatch words x
unfolding mark_match
mark_match_some words x e = mark_by words (words_after (codes "-m") words) x refl e
