use Rattle.std.proofs.Common.{◌≡◌, ◌∙◌, ℕ, arith, refl, subst}
use Rattle.place_rows.specs.Rows.{TurnedUpTo}
use Rattle.plane.specs.Planes.{places_of}
use Rattle.feeder_set.specs.Steps.{FallsAt}
use Rattle.feeder_set.proofs.FramePackets.{none_turned, one_more, falls_at}
use Rattle.feeder_set.proofs.falling.fall.Goals as goal

pub loop-place-init : goal.loop-place-init
loop-place-init g c = record {
  pass = c.requires;
  parts = refl;
  turned = none_turned (FallsAt c.args.device) c.args.pass.now.trail.known;
  fed = refl;
  lost = refl;
}

pub loop-place-preserved : goal.loop-place-preserved
loop-place-preserved g c = record {
  pass = c.device_down.ensures.pass;
  parts = c.device_down.ensures.parts ∙ c.loop-place.invariant.parts;
  turned = one_more (FallsAt c.args.device) c.loop-place.place _ _ _
      c.loop-place.invariant.turned
      (falls_at c.args.device c.loop-place.place _ _ _ c.in_ok-device_down.ensures.down);
  fed = c.device_down.ensures.same.0 ∙ c.loop-place.invariant.fed;
  lost = c.device_down.ensures.same.1 ∙ c.loop-place.invariant.lost;
}

pub returns-clause-falls : goal.returns-clause-falls
returns-clause-falls g c =
    let at_end : c.loop-place.place ≡ places_of c.args.plane.now =
    omega (
      arith,
      c.loop-place-test.false,
      c.loop-place.auto.place-end,
      c.places-place-end.ensures,
    ) in
    record {
      turned = subst (λ (k : ℕ). TurnedUpTo k c.args.pass.now.trail.known
          c.loop-place.pass.trail.known (FallsAt c.args.device)) at_end
          c.loop-place.invariant.turned;
      fed = c.loop-place.invariant.fed;
      lost = c.loop-place.invariant.lost;
      of = c.loop-place.invariant.pass;
    }
