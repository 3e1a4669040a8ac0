use Rattle.std.proofs.Common.{arith, ap, ◌∙◌}
use Rattle.std.specs.Prelude.{slice_set}
use Rattle.std.specs.Ordering.{nat_cmp}
use Rattle.std.specs.BTreeSet.{contains}
use Rattle.std.proofs.lemmas.List.Edits.{map_over_more}
use Rattle.fate_ledger.specs.Following.{lost_line}
use Rattle.fate_ledger.proofs.last_lines.lose_all.Goals as goal

pub loop-at-preserved : goal.loop-at-preserved
loop-at-preserved c =
    ap (slice_set c.loop-at.lines.items c.loop-at.at) c.lose.ensures
    ∙ map_over_more (lost_line (contains nat_cmp c.args.lost.now)) c.args.lines.now.items
    c.loop-at.lines.items c.loop-at.at c.index_mut.result.now
    (omega (arith, c.loop-at-test.true, c.len-at-end.ensures)) c.loop-at.invariant
    c.index_mut.ensures.value
