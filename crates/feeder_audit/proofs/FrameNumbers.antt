-- No line stands after a frame whose number takes more than 32 bits.
use Rattle.std.proofs.Common.{◌≡◌, ◌≤◌, ℕ, zero, suc, ◌+◌, ◌-◌, min, List, [], ◌∷◌, ◌++◌, refl}
use Rattle.std.proofs.Common.{sym, ap, ◌∙◌, arith, inl, inr, append_assoc, append-nil, cond}
use Rattle.std.specs.Prelude.{filter}
use Rattle.std.proofs.lemmas.Bool.{ne_eqb, cases_lt}
use Rattle.script_lines.specs.declared.line.Down.{Down}
use Rattle.inspector_script.specs.Scripts.{ScriptValue}
use Rattle.run_parts.specs.Feeder.{is_after, downs_after, downs_from, downs_in_effect}
use Rattle.feeder_audit.specs.Fitting.{AreShort}

none_after : (number : ℕ) (ds : List Down) → AreShort ds → 4294967296 ≤ number →
    filter (is_after number) ds ≡ []
none_after number [] short far = refl
none_after number (d ∷ ds) short far =
    ap (λ b. cond b (d ∷ filter (is_after number) ds) (filter (is_after number) ds))
    (ne_eqb d.after number (λ same. let wrong : ⊥ = omega (arith, same, short.0, far) in wrong))
    ∙ none_after number ds short.1 far

module _ (script : ScriptValue) where
  none_from : (number frames : ℕ) → AreShort script.downs → 4294967296 ≤ number →
      downs_from script number frames ≡ []
  none_from number zero short far = refl
  none_from number (suc frames) short far =
      ap (λ ds. ds ++ downs_from script (number + 1) frames)
      (none_after number script.downs short far)
      ∙ none_from (number + 1) frames short (omega (arith, far))

  from_both : (number a b : ℕ) →
      downs_from script number (a + b)
      ≡ downs_from script number a ++ downs_from script (number + a) b
  from_both number zero b =
      ap (λ k. downs_from script number k) (let same : 0 + b ≡ b = omega arith in same)
      ∙ ap (λ n. downs_from script n b) (let same : number ≡ number + 0 = omega arith in same)
  from_both number (suc a) b =
      ap (λ k. downs_from script number k) (let same : suc a + b ≡ suc (a + b) = omega arith in same)
      ∙ ap (λ ds. downs_after script number ++ ds) (from_both (number + 1) a b)
      ∙ ap (λ n. downs_after script number ++ (downs_from script (number + 1) a
      ++ downs_from script n b))
      (let same : (number + 1) + a ≡ number + suc a = omega arith in same)
      ∙ sym (append_assoc (downs_after script number) (downs_from script (number + 1) a)
      (downs_from script (number + suc a) b))

  pub in_effect : (frames last : ℕ) → AreShort script.downs → last ≡ min frames 4294967295 →
      downs_in_effect script last ≡ downs_in_effect script frames
  in_effect frames last short is = elim (cases_lt frames 4294967296) [
    | inl few ↦ ap (downs_in_effect script)
        (let same : last ≡ frames = omega (arith, is, few) in same)
    | inr many ↦
        (let all : suc last + (frames - last) ≡ suc frames = omega (arith, is, many) in
        sym (sym (ap (λ k. downs_from script 0 k) all)
        ∙ from_both 0 (suc last) (frames - last)
        ∙ ap (λ ds. downs_from script 0 (suc last) ++ ds)
        (none_from (0 + suc last) (frames - last) short (omega (arith, is, many)))
        ∙ append-nil (downs_from script 0 (suc last))))
  ]
