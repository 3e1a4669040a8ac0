use Rattle.std.proofs.Common.{arith}
use Rattle.histories.proofs.PlaceSwaps.{settling_none, settling_more}
use Rattle.histories.proofs.rearranging.settle.Goals as goal

pub loop-place-init : goal.loop-place-init
loop-place-init g c = settling_none _ _ _ c.requires.inverse c.requires.same_length

pub loop-place-preserved : goal.loop-place-preserved
loop-place-preserved g c =
    settling_more _ _ _ _ _ _ _ _ _ c.loop-place.invariant (omega (arith, c.requires.same_length))
    c.swap.ensures.after c.swap-in-loop-place.ensures.after c.swap-in-loop-place-2.ensures.after
