use Rattle.std.proofs.Common.{◌+◌, List, ℕ, ap, arith, sym, ◌∙◌}
use Rattle.std.specs.Prelude.{slice_index_or}
use Rattle.fate_ledger.proofs.LastEventTable.{all_put, put_on}
use Rattle.fate_ledger.proofs.last_lines.put_payloads.Goals as goal

pub loop-at-preserved : goal.loop-at-preserved
loop-at-preserved c =
    put_on c.loop-at.at (c.loop-at.at + 1) c.args.payloads.now.items c.args.lines.now.items
    c.loop-at.lines.items c.in_ok-lines.field-0 c.index_mut.result.now (omega arith)
    (omega (arith, c.loop-at-test.true, c.len-at-end.ensures, c.requires))
    (omega (arith, c.loop-at-test.true, c.len-at-end.ensures)) c.loop-at.invariant
    (c.in_ok-lines.ensures ∙ c.index.ensures
    ∙ ap (λ (p : List ℕ). slice_index_or c.args.payloads.now.items c.loop-at.at p)
    (sym c.in_ok-lines.ensures)) c.index_mut.ensures.value

pub returns : goal.returns
returns c =
    c.loop-at.invariant
    ∙ all_put c.args.payloads.now.items c.args.lines.now.items c.loop-at.at
    (omega (arith, c.loop-at-test.false, c.loop-at.auto.at-end, c.len-at-end.ensures, c.requires))
    (omega (arith, c.loop-at-test.false, c.loop-at.auto.at-end, c.len-at-end.ensures))
