use Rattle.std.proofs.Common.{refl, rules}
use Rattle.order_audit.proofs.Places.{one_more}
use Rattle.order_audit.proofs.rows.rows_of.Goals as goal

pub loop-place-preserved : goal.loop-place-preserved
loop-place-preserved c =
    one_more c.args.entries.now c.loop-place.rows c.lengthen.new.rows c.loop-place.place _
    c.in-Some.entry.now (search rules) refl c.loop-place.invariant c.in_ok-lengthen.ensures
