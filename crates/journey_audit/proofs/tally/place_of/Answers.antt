use Rattle.std.proofs.Common.{◌<◌, length, sym, ◌∙◌, arith}
use Rattle.journey_audit.proofs.ArrivalComparison.{nowhere_on}
use Rattle.journey_audit.proofs.tally.place_of.Goals as goal

pub loop-place-preserved : goal.loop-place-preserved
loop-place-preserved c =
    let within : c.loop-place.place < length c.args.arrivals.now.items =
    omega (arith, c.args.arrivals.now.ok.0) in
    nowhere_on c.args.arrivals.now.items c.args.wanted.now c.index.result.now c.loop-place.place
    within c.index.ensures (sym c.is_same.ensures ∙ c.if-is_same.false) c.loop-place.invariant
