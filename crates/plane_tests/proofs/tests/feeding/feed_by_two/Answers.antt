use Rattle.std.proofs.Common.{◌∷◌, sym, subst}
use Rattle.place_rows.specs.Joining.{AreWhole}
use Rattle.plane.specs.Passes.{FeederView}
use Rattle.plane.specs.Planes.{places_of}
use Rattle.plane_tests.proofs.AllPasses.{fed_whole}
use Rattle.plane_tests.proofs.tests.feeding.feed_by_two.Goals as goal

pub returns-in_err-other-clause-whole : goal.returns-in_err-other-clause-whole
returns-in_err-other-clause-whole g c = λ rows whole.
    subst (λ (p : FeederView). AreWhole (places_of c.args.plane.now) (p.trail.known ∷ rows))
    (sym c.in_err-other.ensures.err) whole

pub returns-clause-whole : goal.returns-clause-whole
returns-clause-whole g c = λ rows whole.
    fed_whole c.parts_stay_whole.ensures (places_of c.args.plane.now)
    c.args.pass.now.trail.known c.split_feeder.new.pass.trail.known
    c.in_ok-other.other.trail.known c.feed_all-first.new.pass.trail.known
    c.feed_all-second.new.pass.trail.known c.join_feeder.new.into.trail.known rows
    c.in_ok-other.ensures.split.parts c.feed_all-second.ensures.parts
    c.feed_all-first.ensures.parts c.join_feeder.ensures.joined.parts whole
