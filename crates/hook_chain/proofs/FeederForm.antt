-- What is read of a file with one feeder: the same as of its rules.
use Rattle.std.proofs.Common.{◌≡◌, ℕ, ◌⊎◌, inl, inr, ⊎_elim, List, [], Ok, Err, Result, refl}
use Rattle.std.proofs.Common.{sym, ap, ◌∙◌}
use Rattle.std.specs.Prelude.{IfOk, IsOk, Any}
use Rattle.std.specs.Str.Lines.{lines}
use Rattle.hook_chain.specs.declared.rule.Rule.{Rule}
use Rattle.text_lines.specs.declared.fault.LineFault.{LineFault}
use Rattle.text_lines.specs.declared.fault.LineFault.TheVariants.{Bad, NoMemory}
use Rattle.hook_chain.specs.Rules.{RuleTables, with_one_feeder, for_one_feeder}
use Rattle.hook_chain.specs.RulesFile.{Answers, rules_of, tables_of}
use Rattle.hook_chain.specs.Grammar.{BeginsTable, IsFileOf, IsRulesFile, IsFirstRefused}
use Rattle.hook_chain.proofs.FileForm.{file_found, file_read, file_stuck, refused_by, same_tables}
use Rattle.hook_chain.proofs.FileForm.{never_both, one_of_two}
use Rattle.hook_chain.proofs.TableLines.{always_read}

-- tables that have one feeder are those of their rules
of_rules : (t : RuleTables) → t.feeders ≡ 1 → with_one_feeder t.rules ≡ t
of_rules t e = λ i. record { rules = t.rules; feeders = sym e i }

pub read_one : (text : List ℕ) (t : RuleTables) → IsRulesFile text t → tables_of text ≡ Ok t
read_one text t h =
    ap for_one_feeder (file_read text t.rules h.0)
    ∙ ap (λ (u : RuleTables). Ok u) (of_rules t h.1)

pub stuck_one : (text : List ℕ) (line : ℕ) → IsFirstRefused text line → tables_of text ≡ Err line
stuck_one text line h = ap for_one_feeder (file_stuck text line h)

pub exact_one : (r : Result (List (List Rule)) LineFault) (text : List ℕ) →
    Answers r (rules_of text) → Answers (for_one_feeder r) (tables_of text)
exact_one (Ok rules) text h = ap for_one_feeder h
exact_one (Err (Bad line)) text h = ap for_one_feeder h
exact_one (Err NoMemory) text h = h

pub found_one : (r : Result (List (List Rule)) LineFault) (text : List ℕ) →
    Answers r (rules_of text) → IfOk (for_one_feeder r) (IsRulesFile text)
found_one (Ok rules) text h = (file_found text rules h, refl)
found_one (Err fault) text h = tt

same_fault : (r : Result (List (List Rule)) LineFault) (fault : LineFault) →
    for_one_feeder r ≡ Err fault → r ≡ Err fault
same_fault (Ok rules) fault e = absurd (let never : ⊥ = cc e in never)
same_fault (Err other) fault e =
    let same : other ≡ fault = cc e in ap (λ (f : LineFault). Err f) same

pub refused_one : (r : Result (List (List Rule)) LineFault) (text : List ℕ) (line : ℕ) →
    Answers r (rules_of text) → for_one_feeder r ≡ Err (Bad line) → IsFirstRefused text line
refused_one r text line h e = refused_by r text line h (same_fault r (Bad line) e)

pub memory_one : (r : Result (List (List Rule)) LineFault) (text : List ℕ) →
    (r ≡ Err NoMemory → Any BeginsTable (lines text)) →
    for_one_feeder r ≡ Err NoMemory → Any BeginsTable (lines text)
memory_one r text h e = h (same_fault r NoMemory e)

is_ok_one : (r : Result (List (List Rule)) LineFault) → IsOk r → IsOk (for_one_feeder r)
is_ok_one (Ok rules) h = refl
is_ok_one (Err fault) h = h

pub always_one : (r : Result (List (List Rule)) LineFault) (text : List ℕ) →
    Answers r (rules_of text) → (r ≡ Err NoMemory → Any BeginsTable (lines text)) →
    IsRulesFile text (with_one_feeder []) → IsOk (for_one_feeder r)
always_one r text a m h = is_ok_one r (always_read r text a m h.0)

-- ---- laws
pub same_one : (text : List ℕ) (a b : RuleTables) → IsRulesFile text a → IsRulesFile text b → a ≡ b
same_one text a b h g =
    sym (of_rules a h.1)
    ∙ (ap with_one_feeder (same_tables text a.rules b.rules h.0 g.0) ∙ of_rules b g.1)

pub never_both_one : (text : List ℕ) (tables : RuleTables) (line : ℕ) → IsRulesFile text tables →
    IsFirstRefused text line → ⊥
never_both_one text tables line h g = never_both text tables.rules line h.0 g

pub one_or_other : (text : List ℕ) →
    ((tables : RuleTables) × IsRulesFile text tables) ⊎ ((line : ℕ) × IsFirstRefused text line)
one_or_other text =
    ⊎_elim
    (λ (h : (rules : List (List Rule)) × IsFileOf text rules).
    inl (with_one_feeder h.0, (h.1, refl)))
    (λ (h : (line : ℕ) × IsFirstRefused text line). inr h) (one_of_two text)
