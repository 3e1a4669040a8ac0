-- A line says exactly what the grammar has for it.
use Rattle.std.proofs.Common.{◌≡◌, ℕ, Bool, true, false, cond, ◌&&◌, inl, inr, List, [], ◌∷◌, ◌++◌}
use Rattle.std.proofs.Common.{length, drop, get_or, eqb, Option, Some, None, ◌∙◌, refl, sym, ap}
use Rattle.std.proofs.Common.{subst, arith}
use Rattle.std.specs.Prelude.{option_map, bytes_eq, codes}
use Rattle.std.specs.List.{list_all}
use Rattle.std.specs.Option.{option_map_or}
use Rattle.std.proofs.lemmas.Option.{cond_some, same_Some}
use Rattle.std.proofs.lemmas.Bool.{and_parts, eqb-true, false≢true}
use Rattle.hook_chain.specs.declared.rule.Rule.{Rule}
use Rattle.text_lines.specs.Words.{byte, first_said, first_word, words_after, is_printable}
use Rattle.text_lines.specs.Words.{words_of}
use Rattle.hook_chain.specs.RuleLine.{rule_of}
use Rattle.hook_chain.specs.Line.{Says, Nothing, Opens, Policy, Adds, Closes, is_table_name}
use Rattle.hook_chain.specs.Line.{is_chain_name, is_counters, opening, policy, says_by, says}
use Rattle.hook_chain.specs.Grammar.{IsForm, IsLine}
use Rattle.hook_chain.proofs.RuleForm.{bind_some, words_after_some, first_word_some, same_word}
use Rattle.hook_chain.proofs.OptionForm.{chosen, no_value}
use Rattle.hook_chain.proofs.RuleLineForm.{rule_some, rule_again}

-- a word by its first byte
byte_and_rest : (c : ℕ) (word : List ℕ) → eqb 0 c ≡ false → eqb (get_or word 0 0) c ≡ true →
    word ≡ c ∷ drop 1 word
byte_and_rest c [] other h = absurd (false≢true (sym other ∙ h))
byte_and_rest c (b ∷ bs) other h = ap (λ d. d ∷ bs) (eqb-true b c h)

none_left : (words : List (List ℕ)) → eqb (length words) 0 ≡ true → words ≡ []
none_left [] e = refl
none_left (w ∷ ws) e =
    let never : length (w ∷ ws) ≡ 0 = eqb-true (length (w ∷ ws)) 0 e in absurd (omega arith)

opening_some : (word : List ℕ) (words : List (List ℕ)) (said : Says) →
    word ≡ codes "*" ++ drop 1 word → opening (drop 1 word) words ≡ Some said →
    IsForm (word ∷ words) said
unfolding opening
opening_some word words said is e =
    let parts =
    cond_some (is_table_name (drop 1 word) && eqb (length words) 0) (Opens (drop 1 word)) said e
    in
    let tests = and_parts (is_table_name (drop 1 word)) (eqb (length words) 0) parts.0 in
    subst (IsForm (word ∷ words)) parts.1
    (rw (none_left words tests.1) (ap (λ w. w ∷ []) is), tests.0)

policy_some : (word : List ℕ) (words : List (List ℕ)) (said : Says) →
    word ≡ codes ":" ++ drop 1 word → policy (drop 1 word) words ≡ Some said →
    IsForm (word ∷ words) said
unfolding policy
policy_some word words said is e =
    let rest = bind_some (words_after (codes "ACCEPT") words) _ said e in
    let counters = bind_some (first_word rest.0) _ said rest.2 in
    let parts =
    cond_some (is_chain_name (drop 1 word) && is_counters (counters.0).0
    && eqb (length (counters.0).1) 0) Policy said counters.2 in
    let both =
    and_parts (is_chain_name (drop 1 word) && is_counters (counters.0).0)
    (eqb (length (counters.0).1) 0) parts.0 in
    let tests = and_parts (is_chain_name (drop 1 word)) (is_counters (counters.0).0) both.0 in
    let words_are : words ≡ codes "ACCEPT" ∷ (counters.0).0 ∷ [] =
    words_after_some (codes "ACCEPT") words rest.0 rest.1
    ∙ ap (λ ws. codes "ACCEPT" ∷ ws)
    (first_word_some rest.0 counters.0 counters.1
    ∙ ap (λ ws. (counters.0).0 ∷ ws) (none_left (counters.0).1 both.1))
    in
    subst (IsForm (word ∷ words)) parts.1 (
      drop 1 word,
      (counters.0).0,
      ap (λ w. w ∷ words) is
          ∙ ap (λ ws. (codes ":" ++ drop 1 word) ∷ ws) words_are,
      tests.0,
      tests.1,
    )

adds_some : (words : List (List ℕ)) (o : Option Rule) (said : Says) → rule_of words ≡ o →
    option_map Adds o ≡ Some said → (r : Rule) × (rule_of words ≡ Some r) × (Adds r ≡ said)
adds_some words None said is e = absurd (no_value said e)
adds_some words (Some r) said is e = (r, is, same_Some (Adds r) said e)

rule_form : (word : List ℕ) (words : List (List ℕ)) (said : Says) → word ≡ codes "-A" →
    option_map Adds (rule_of words) ≡ Some said → IsForm (word ∷ words) said
rule_form word words said is e =
    let found = adds_some words (rule_of words) said refl e in
    subst (IsForm (word ∷ words)) found.2 (rw is (rule_some words found.0 found.1))

commit_form : (word : List ℕ) (words : List (List ℕ)) (said : Says) →
    cond (bytes_eq word (codes "COMMIT") && eqb (length words) 0) (Some Closes) None ≡ Some said →
    IsForm (word ∷ words) said
commit_form word words said e =
    let parts = cond_some (bytes_eq word (codes "COMMIT") && eqb (length words) 0) Closes said e in
    let tests = and_parts (bytes_eq word (codes "COMMIT")) (eqb (length words) 0) parts.0 in
    subst (IsForm (word ∷ words)) parts.1
    (rw (same_word word (codes "COMMIT") tests.0, none_left words tests.1) refl)

by_form : (word : List ℕ) (words : List (List ℕ)) (said : Says) → says_by word words ≡ Some said →
    IsForm (word ∷ words) said
unfolding says_by
by_form word words said e =
    elim (chosen (eqb (get_or word 0 0) (byte "*")) (opening (drop 1 word) words) _
    (Some said) e) [
      | inl g ↦ opening_some word words said (byte_and_rest (byte "*") word refl g.0) g.1
      | inr g ↦ elim (chosen (eqb (get_or word 0 0) (byte ":")) (policy (drop 1 word) words) _
          (Some said) g.1) [
            | inl f ↦ policy_some word words said (byte_and_rest (byte ":") word refl f.0) f.1
            | inr f ↦ elim (chosen (bytes_eq word (codes "-A"))
                (option_map Adds (rule_of words)) _ (Some said) f.1) [
                  | inl d ↦ rule_form word words said (same_word word (codes "-A") d.0) d.1
                  | inr d ↦ commit_form word words said d.1
                ]
          ]
    ]

-- what a line says by its first word, where it isn't passed over
by_said : Option (List ℕ × List (List ℕ)) → Option Says
by_said o = option_map_or (λ w. says_by w.0 w.1) o (Some Nothing)

form_by_first : (word : List ℕ) (words : List (List ℕ)) (said : Says) (is : Bool) →
    eqb (get_or word 0 0) (byte "#") ≡ is →
    by_said (cond is None (Some (word, words))) ≡ Some said → IsForm (word ∷ words) said
unfolding by_said
form_by_first word words said true is e =
    subst (IsForm (word ∷ words)) (same_Some Nothing said e)
    (inr (drop 1 word, words, ap (λ w. w ∷ words) (byte_and_rest (byte "#") word refl is)))
form_by_first word words said false is e = by_form word words said e

form_some : (words : List (List ℕ)) (said : Says) →
    option_map_or (λ w. says_by w.0 w.1) (first_said words) (Some Nothing) ≡ Some said →
    IsForm words said
unfolding by_said
form_some [] said e = subst (IsForm []) (same_Some Nothing said e) (inl refl)
form_some (word ∷ words) said e =
    form_by_first word words said (eqb (get_or word 0 0) (byte "#")) refl e

-- what a line says is its form in the grammar
pub says_some : (line : List ℕ) (said : Says) → says line ≡ Some said → IsLine line said
unfolding says
says_some line said e =
    elim (chosen (list_all is_printable line) _ None (Some said) e) [
      | inl h ↦ (h.0, form_some (words_of line) said h.1)
      | inr h ↦ absurd (no_value said h.1)
    ]

form_again : (words : List (List ℕ)) (said : Says) → IsForm words said →
    option_map_or (λ w. says_by w.0 w.1) (first_said words) (Some Nothing) ≡ Some said
unfolding says_by opening policy
form_again words Nothing (inl e) = rw e refl
form_again words Nothing (inr e) = rw e.2 refl
form_again words (Opens name) e = rw (e.0, e.1) refl
form_again words Policy e = rw (e.2, e.3, e.4) refl
form_again words (Adds rule) e = let found = rule_again words rule e in rw (found.1, found.2) refl
form_again words Closes e = rw e refl

-- a line that has a form says it
pub says_again : (line : List ℕ) (said : Says) → IsLine line said → says line ≡ Some said
unfolding says
says_again line said h = rw h.0 (form_again (words_of line) said h.1)
