-- A whole rule is read from exactly the words that the grammar has for it.
use Rattle.std.proofs.Common.{◌≡◌, ℕ, Bool, true, false, List, [], ◌∷◌, ◌++◌, Option, Some, None}
use Rattle.std.proofs.Common.{◌∙◌, refl, ap, subst}
use Rattle.std.specs.Prelude.{codes}
use Rattle.std.proofs.lemmas.Option.{same_Some}
use Rattle.hook_chain.specs.declared.rule.Rule.{Rule}
use Rattle.hook_chain.specs.declared.rule.MarkTest.{MarkTest}
use Rattle.text_lines.specs.Words.{◌>>=◌, words_after}
use Rattle.hook_chain.specs.RuleLine.{options_after, rule_of, protocol_match, value_and_mask}
use Rattle.hook_chain.specs.RuleLine.{mark_match}
use Rattle.hook_chain.specs.Grammar.{IsProtocolMatch, negation, IsMarkMatch, IsRuleLine}
use Rattle.hook_chain.proofs.RuleForm.{bind_some, words_after_some, protocol_match_some}
use Rattle.hook_chain.proofs.RuleForm.{mark_match_some}
use Rattle.hook_chain.proofs.FanoutForm.{options_some, options_again}

-- what is read of a rule is in the grammar
pub rule_some : (words : List (List ℕ)) (r : Rule) → rule_of words ≡ Some r →
    IsRuleLine (codes "-A" ∷ words) r
unfolding rule_of
rule_some words r e =
    let matches = bind_some (words_after (codes "FORWARD") words) _ r e in
    let protocol = bind_some (protocol_match matches.0) _ r matches.2 in
    let mark = bind_some (mark_match (protocol.0).1) _ r protocol.2 in
    let options =
    bind_some (words_after (codes "-j") (mark.0).1 >>= words_after (codes "NFQUEUE")) _ r mark.2
    in
    let jump =
    bind_some (words_after (codes "-j") (mark.0).1) (words_after (codes "NFQUEUE")) options.0
    options.1 in
    let option = bind_some (options_after None false false options.0) _ r options.2 in
    let first = protocol_match_some matches.0 protocol.0 protocol.1 in
    let second = mark_match_some (protocol.0).1 mark.0 mark.1 in
    let target : (mark.0).1 ≡ codes "-j" ∷ codes "NFQUEUE" ∷ options.0 =
    words_after_some (codes "-j") (mark.0).1 jump.0 jump.1
    ∙ ap (λ ws. codes "-j" ∷ ws) (words_after_some (codes "NFQUEUE") jump.0 options.0 jump.2)
    in
    let line : words ≡ codes "FORWARD" ∷ (first.0
    ++ (second.0 ++ codes "-j" ∷ codes "NFQUEUE" ∷ options.0)) =
    words_after_some (codes "FORWARD") words matches.0 matches.1
    ∙ ap (λ ws. codes "FORWARD" ∷ ws)
    (first.2 ∙ ap (λ ws. first.0 ++ ws) (second.2 ∙ ap (λ ws. second.0 ++ ws) target))
    in
    subst (IsRuleLine (codes "-A" ∷ words)) (same_Some _ r option.2)
    (record {
      protocol = first.0;
      mark = second.0;
      options = options.0;
      protocol_is = first.1;
      mark_is = second.1;
      options_are = options_some options.0 option.0 option.1;
      line = ap (λ ws. codes "-A" ∷ ws) line;
    })

protocol_again : (front rest : List (List ℕ)) (protocol : Option ℕ) →
    IsProtocolMatch front protocol → words_after (codes "-p") rest ≡ None →
    protocol_match (front ++ rest) ≡ Some (protocol, rest)
unfolding protocol_match
protocol_again front rest None h other = rw (h, other) refl
protocol_again front rest (Some protocol) h other = rw (h.1, h.2) refl

marked : (rest : List (List ℕ)) (word : List ℕ) (value mask : ℕ) (negated : Bool) →
    value_and_mask word ≡ Some (value, mask) →
    mark_match ((codes "-m" ∷ codes "mark" ∷ (negation negated ++ codes "--mark" ∷ word ∷ []))
    ++ rest) ≡ Some (Some (record { value = value; mask = mask; negated = negated }), rest)
unfolding mark_match
marked rest word value mask true h = rw h refl
marked rest word value mask false h = rw h refl

no_mark : (rest : List (List ℕ)) → words_after (codes "-m") rest ≡ None →
    mark_match rest ≡ Some (None, rest)
unfolding mark_match
no_mark rest other = rw other refl

mark_again : (front rest : List (List ℕ)) (mark : Option MarkTest) → IsMarkMatch front mark →
    words_after (codes "-m") rest ≡ None → mark_match (front ++ rest) ≡ Some (mark, rest)
mark_again front rest None h other = rw h (no_mark rest other)
mark_again front rest (Some test) h other =
    rw h.1 (marked rest h.0 test.value test.mask test.negated h.2)

-- the mark's words don't begin with `-p`
no_protocol : (front rest : List (List ℕ)) (mark : Option MarkTest) → IsMarkMatch front mark →
    words_after (codes "-p") rest ≡ None → words_after (codes "-p") (front ++ rest) ≡ None
no_protocol front rest None h other = rw h other
no_protocol front rest (Some test) h other = rw h.1 refl

-- what the grammar has of a rule is read
pub rule_again : (words : List (List ℕ)) (r : Rule) → IsRuleLine words r →
    (rest : List (List ℕ)) × (words ≡ codes "-A" ∷ rest) × (rule_of rest ≡ Some r)
unfolding rule_of
rule_again words r h =
    let target = codes "-j" ∷ codes "NFQUEUE" ∷ h.options in
    let first =
    protocol_again h.protocol (h.mark ++ target) r.protocol h.protocol_is
    (no_protocol h.mark target r.mark h.mark_is refl) in
    let second = mark_again h.mark target r.mark h.mark_is refl in
    let third = options_again h.options r.pick r.bypass r.fanout h.options_are in
    (codes "FORWARD" ∷ (h.protocol ++ (h.mark ++ target)), h.line, rw (first, second, third) refl)
