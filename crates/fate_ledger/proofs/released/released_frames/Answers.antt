use Rattle.fate_ledger.proofs.ReleasedFrames.{kept_on, as_many_left, others_fit}
use Rattle.fate_ledger.proofs.released.released_frames.Goals as goal

pub loop-line-preserved : goal.loop-line-preserved
loop-line-preserved c = (
  kept_on c.args.link _ _ c.in-Some-next.frame.now _ _ c.in-Some.line.now _ _ _
      c.in-Some-next.ensures.steps c.in-Some.ensures.steps c.in_ok-keep.ensures
      c.loop-line.invariant.0,
  as_many_left _ _ c.in-Some-next.frame.now _ _ c.in-Some.line.now
      c.in-Some-next.ensures.steps c.in-Some.ensures.steps c.loop-line.invariant.1,
  others_fit _ _ c.in-Some.line.now c.in-Some.ensures.steps c.loop-line.invariant.2,
)
