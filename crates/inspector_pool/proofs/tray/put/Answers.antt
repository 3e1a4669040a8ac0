use Rattle.std.proofs.Common.{rules}
use Rattle.inspector_pool.proofs.Trays.{put_goes}
use Rattle.inspector_pool.proofs.tray.put.Goals as goal

pub loop-done-preserved : goal.loop-done-preserved
loop-done-preserved c =
    put_goes _ _ _ _ _ _ _ _ c.in-Some.ensures.steps.0 (search rules) c.loop-done.invariant
