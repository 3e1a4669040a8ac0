use Rattle.std.proofs.Common.{◌≡◌, ℕ, List, ◌++◌, OnOk, ap, subst, ◌∙◌}
use Rattle.fate_ledger.specs.Counts.{counts, every_fate, lines_of}
use Rattle.fate_ledger.proofs.FateCounts.{lines_are}
use Rattle.fate_ledger.proofs.counts.counts_text.Goals as goal

pub returns-clause-ok : goal.returns-clause-ok
returns-clause-ok c =
    let text : c.push_counts.new.out.items ≡ counts c.args.lines.now =
    c.in_ok-push_counts.ensures
    ∙ ap (λ (bytes : List ℕ). bytes ++ lines_of every_fate c.counted.result)
    c.new-counts.ensures.items
    ∙ ap (lines_of every_fate) c.counted.ensures ∙ lines_are c.args.lines.now in
    subst (λ (bytes : List ℕ). OnOk c.append_text.result
    (c.append_text.new.out.items ≡ c.args.out.now.items ++ bytes)) text c.append_text.ensures.ok
