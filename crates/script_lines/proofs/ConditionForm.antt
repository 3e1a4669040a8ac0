-- A condition is read from exactly the words that the grammar has for it.
use Rattle.std.proofs.Common.{◌≡◌, ℕ, zero, suc, cond, false, eqb, inl, inr, List, [], ◌∷◌}
use Rattle.std.proofs.Common.{◌++◌, length, Some, None, ◌∙◌, ◌≤◌, refl, sym, ap, subst, arith}
use Rattle.std.specs.Prelude.{◌^◌, bytes_eq, codes, option_map}
use Rattle.std.proofs.lemmas.Bool.{eqb-true, false_from_ne_true, false≢true}
use Rattle.std.proofs.lemmas.Option.{cond_some, none-some, same_Some}
use Rattle.text_lines.specs.Words.{◌>>=◌, byte, cut_at, first_word}
use Rattle.text_lines.specs.Digits.{decimal, decimal_below}
use Rattle.script_lines.specs.declared.condition.Condition.{Condition}
use Rattle.script_lines.specs.declared.condition.Condition.TheVariants as test
use Rattle.script_lines.specs.ConditionLine.{condition_of, every_of, mark_of, test_of}
use Rattle.script_lines.specs.Grammar.{IsCondition}
use Rattle.text_lines.specs.Numerals.{IsNumeral}
use Rattle.script_lines.proofs.WordLaws.{Laws, below_again, below_some, bind_some, chosen}
use Rattle.script_lines.proofs.WordLaws.{cut_front, cut_some, first_word_some, map_some, none_left}
use Rattle.script_lines.proofs.WordLaws.{number_again, number_uncut, passed, same_word}

-- ---- what is read

mark_some : Laws → (word : List ℕ) (c : Condition) → mark_of word ≡ Some c →
    IsCondition (codes "mark" ∷ word ∷ []) c
unfolding mark_of
mark_some laws word c e =
    let parts = bind_some (cut_at (byte "/") word) _ c e in
    let value = bind_some (decimal (parts.0).0) _ c parts.2 in
    let mask = bind_some (decimal (parts.0).1) _ c value.2 in
    subst (IsCondition (codes "mark" ∷ word ∷ [])) (same_Some (test.Mark value.0 mask.0) c mask.2) (
      (parts.0).0,
      (parts.0).1,
      (laws.numerals (parts.0).0 value.0).0 value.1,
      (laws.numerals (parts.0).1 mask.0).0 mask.1,
      ap (λ w. codes "mark" ∷ w ∷ []) (cut_some (byte "/") word parts.0 parts.1),
    )

at_least_one : (n : ℕ) → eqb n 0 ≡ false → 1 ≤ n
at_least_one zero e = absurd (false≢true (sym e))
at_least_one (suc n) e = omega arith

every_some : Laws → (word : List ℕ) (c : Condition) → every_of word ≡ Some c →
    IsCondition (codes "every" ∷ word ∷ []) c
unfolding every_of
every_some laws word c e =
    let number = bind_some (decimal word) _ c e in
    elim (chosen (eqb number.0 0) None (Some (test.Every number.0)) (Some c) number.2) [
      | inl h ↦ absurd (none-some c h.1)
      | inr h ↦ subst (IsCondition (codes "every" ∷ word ∷ []))
          (same_Some (test.Every number.0) c h.1)
          (word, (laws.numerals word number.0).0 number.1, at_least_one number.0 h.0, refl)
    ]

-- the last of the names
priority_some : Laws → (name word : List ℕ) (c : Condition) →
    cond (bytes_eq name (codes "priority")) (option_map test.Priority (decimal word)) None
    ≡ Some c → IsCondition (name ∷ word ∷ []) c
priority_some laws name word c e =
    elim (chosen (bytes_eq name (codes "priority")) _ None (Some c) e) [
      | inl h ↦ let n = map_some test.Priority (decimal word) c h.1 in
          subst (λ (w : List ℕ). IsCondition (w ∷ word ∷ []) c)
          (sym (same_word name (codes "priority") h.0))
          (subst (IsCondition (codes "priority" ∷ word ∷ [])) n.2
          (word, (laws.numerals word n.0).0 n.1, refl))
      | inr h ↦ absurd (none-some c h.1)
    ]

test_some : Laws → (name word : List ℕ) (c : Condition) → test_of name word ≡ Some c →
    IsCondition (name ∷ word ∷ []) c
unfolding test_of
test_some laws name word c e =
    let Means : List ℕ → Type 0 = λ n. IsCondition (n ∷ word ∷ []) c in
    elim (chosen (bytes_eq name (codes "id")) _ _ (Some c) e) [
      | inl h ↦ let n = map_some test.Id (decimal word) c h.1 in
          subst Means (sym (same_word name (codes "id") h.0))
          (subst (IsCondition (codes "id" ∷ word ∷ [])) n.2
          (word, (laws.numerals word n.0).0 n.1, refl))
      | inr h ↦ elim (chosen (bytes_eq name (codes "queue")) _ _ (Some c) h.1) [
        | inl g ↦ let n = map_some test.Queue (decimal_below (2 ^ 16) word) c g.1 in
            subst Means (sym (same_word name (codes "queue") g.0))
            (subst (IsCondition (codes "queue" ∷ word ∷ [])) n.2
            (word, below_some laws (2 ^ 16) word n.0 n.1, refl))
        | inr g ↦ elim (chosen (bytes_eq name (codes "mark")) _ _ (Some c) g.1) [
          | inl f ↦ subst Means (sym (same_word name (codes "mark") f.0))
              (mark_some laws word c f.1)
          | inr f ↦ elim (chosen (bytes_eq name (codes "proto")) _ _ (Some c) f.1) [
            | inl d ↦
                let n = map_some test.Protocol (decimal_below (2 ^ 8) word) c d.1 in
                subst Means (sym (same_word name (codes "proto") d.0))
                (subst (IsCondition (codes "proto" ∷ word ∷ [])) n.2
                (word, below_some laws (2 ^ 8) word n.0 n.1, refl))
            | inr d ↦ elim (chosen (bytes_eq name (codes "every")) _ _ (Some c) d.1) [
              | inl b ↦ subst Means (sym (same_word name (codes "every") b.0))
                  (every_some laws word c b.1)
              | inr b ↦ elim (chosen (bytes_eq name (codes "longer")) _ _ (Some c) b.1) [
                | inl a ↦ let n = map_some test.Longer (decimal word) c a.1 in
                    subst Means (sym (same_word name (codes "longer") a.0))
                    (subst (IsCondition (codes "longer" ∷ word ∷ [])) n.2
                    (word, (laws.numerals word n.0).0 n.1, refl))
                | inr a ↦ priority_some laws name word c a.1
              ]
            ]
          ]
        ]
      ]
    ]

pub condition_some : Laws → (words : List (List ℕ)) (c : Condition) →
    condition_of words ≡ Some c → IsCondition words c
unfolding condition_of
condition_some laws words c e =
    let name = bind_some (first_word words) _ c e in
    let first = first_word_some words name.0 name.1 in
    elim (chosen (bytes_eq (name.0).0 (codes "any")) _ _ (Some c) name.2) [
      | inl h ↦
          let parts = cond_some (eqb (length (name.0).1) 0) test.Any c h.1 in
          let all : words ≡ codes "any" ∷ [] =
          first ∙ ap (λ w. w ∷ (name.0).1) (same_word (name.0).0 (codes "any") h.0)
          ∙ ap (λ ws. codes "any" ∷ ws) (none_left (name.0).1 parts.0) in
          subst (IsCondition words) parts.1 all
      | inr h ↦
          let value = bind_some (first_word (name.0).1) _ c h.1 in
          elim (chosen (eqb (length (value.0).1) 0) (test_of (name.0).0 (value.0).0) None
          (Some c) value.2) [
            | inl g ↦
                let all : words ≡ (name.0).0 ∷ (value.0).0 ∷ [] =
                first ∙ ap (λ ws. (name.0).0 ∷ ws)
                (first_word_some (name.0).1 value.0 value.1
                ∙ ap (λ ws. (value.0).0 ∷ ws) (none_left (value.0).1 g.0)) in
                subst (λ (ws : List (List ℕ)). IsCondition ws c) (sym all)
                (test_some laws (name.0).0 (value.0).0 c g.1)
            | inr g ↦ absurd (none-some c g.1)
          ]
    ]

-- ---- what is written

pub mark_again : Laws → (first second : List ℕ) (value mask : ℕ) → IsNumeral first value →
    IsNumeral second mask → mark_of (first ++ (codes "/" ++ second)) ≡ Some (test.Mark value mask)
unfolding mark_of
mark_again laws first second value mask h g =
    let whole : cut_at (byte "/") (first ++ (codes "/" ++ second)) ≡ Some (first, second) =
    cut_front (byte "/") first second
    (number_uncut (byte "/") first value refl (number_again laws first value h)) in
    ap (λ o. o >>= λ (parts : List ℕ × List ℕ). decimal parts.0 >>= λ v. decimal parts.1 >>= λ m.
    Some (test.Mark v m)) whole
    ∙ ap (λ o. o >>= λ v. decimal second >>= λ m. Some (test.Mark v m))
    (number_again laws first value h)
    ∙ ap (λ o. o >>= λ m. Some (test.Mark value m)) (number_again laws second mask g)

not_zero : (n : ℕ) → 1 ≤ n → eqb n 0 ≡ false
not_zero n some =
    false_from_ne_true (eqb n 0) (λ e. let none : n ≡ 0 = eqb-true n 0 e in omega arith)

pub condition_again : Laws → (words : List (List ℕ)) (c : Condition) → IsCondition words c →
    condition_of words ≡ Some c
unfolding condition_of test_of every_of
condition_again laws words test.Any h = ap condition_of h
condition_again laws words (test.Id n) h =
    ap condition_of h.2 ∙ ap (λ o. option_map test.Id o) (number_again laws h.0 n h.1)
condition_again laws words (test.Queue n) h =
    ap condition_of h.2 ∙ ap (λ o. option_map test.Queue o) (below_again laws (2 ^ 16) h.0 n h.1)
condition_again laws words (test.Mark value mask) h =
    ap condition_of h.4 ∙ mark_again laws h.0 h.1 value mask h.2 h.3
condition_again laws words (test.Protocol n) h =
    ap condition_of h.2 ∙ ap (λ o. option_map test.Protocol o) (below_again laws (2 ^ 8) h.0 n h.1)
condition_again laws words (test.Every n) h =
    ap condition_of h.3
    ∙ ap (λ o. o >>= λ m. cond (eqb m 0) None (Some (test.Every m))) (number_again laws h.0 n h.1)
    ∙ passed (eqb n 0) None (Some (test.Every n)) (not_zero n h.2)
condition_again laws words (test.Longer n) h =
    ap condition_of h.2 ∙ ap (λ o. option_map test.Longer o) (number_again laws h.0 n h.1)
condition_again laws words (test.Priority n) h =
    ap condition_of h.2 ∙ ap (λ o. option_map test.Priority o) (number_again laws h.0 n h.1)
