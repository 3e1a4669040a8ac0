use Rattle.std.proofs.Common.{arith, length-set, ◌∙◌}
use Rattle.histories.proofs.PlaceSwaps.{place_within, inverse_more, inverse_all}
use Rattle.histories.proofs.rearranging.inverse.Goals as goal

pub index_mut-requires : goal.index_mut-requires
index_mut-requires c =
    let within = place_within _ c.loop-place.place c.requires.places (omega arith) in
    omega (arith, within, c.loop-place.invariant.0, c.loop-place.to.ok.0)

pub loop-place-preserved : goal.loop-place-preserved
loop-place-preserved c = (
  length-set _ _ _ ∙ c.loop-place.invariant.0,
  inverse_more _ _ _ c.requires.places c.loop-place.invariant.0 (omega arith)
      c.loop-place.invariant.1,
)

pub returns : goal.returns
returns c =
    inverse_all _ _ c.requires.places c.loop-place.invariant.0
    (λ k lk. c.loop-place.invariant.1 k (omega arith))
