use Rattle.place_turns.specs.Timely.{feeder}
use Rattle.plane.specs.Past.{fed_by, lost_by, after_lost}
use Rattle.plane.specs.Planes.{places_of, setting_of}
use Rattle.plane.proofs.CallBalance.{feed_balanced}
use Rattle.plane.proofs.JoinedFeeders.{fed_after, looks_after, more_fed, none_fed, few_fed}
use Rattle.plane.proofs.LockParts.{feed_parts}
use Rattle.plane.proofs.plane.Plane.feed.Goals as goal

pub feed-requires-clause-of : goal.feed-requires-clause-of
feed-requires-clause-of g c κs within = (rw (← c.pass.view_is) at c.requires.pass).of

pub invariant_of-pass : goal.invariant_of-pass
invariant_of-pass g c = (
  record {
    counted = c.pass.invariant.0.counted;
    few = few_fed (fed_by c.pass.inside.past) c.pass.inside.fed.items c.feed.new.fed.items
        c.args.packet c.feed.result (rw (← c.pass.view_is) at c.requires.few)
        c.feed.ensures.fed c.feed.ensures.none_fed;
  },
  c.feed.ensures.timely feeder c.pass.invariant.1,
)

pub returns-clause-pass : goal.returns-clause-pass
returns-clause-pass g c =
    let is = rw (← c.pass.view_is) at c.requires.pass in
    let front = lost_by c.pass.inside.past in
    let fed = fed_by c.pass.inside.past in
    record {
      of = c.feed.ensures.of;
      balanced = feed_balanced c.passes_stay_balanced.ensures.fed
          c.passes_stay_balanced.ensures.looked (places_of c.args.self.now)
          (setting_of c.args.self.now) (after_lost front c.pass.inside.passes.trail)
          (after_lost front c.feed.new.passes.trail) _ _ c.args.packet c.feed.result
          c.requires.new
          (fed_after front (places_of c.args.self.now) (setting_of c.args.self.now) _ _
          c.args.packet c.feed.result c.feed.ensures.moved)
          (more_fed fed c.pass.inside.fed.items c.feed.new.fed.items c.args.packet c.feed.result
          c.feed.ensures.fed)
          (looks_after front _ _ c.feed.result c.feed.ensures.looked)
          (none_fed fed c.pass.inside.fed.items c.feed.new.fed.items c.args.packet c.feed.result
          c.feed.ensures.none_fed)
          is.balanced;
    }

pub returns-clause-moved : goal.returns-clause-moved
returns-clause-moved g c =
    rw (← c.pass.view_is)
    (fed_after (lost_by c.pass.inside.past) (places_of c.args.self.now)
    (setting_of c.args.self.now) _ _ c.args.packet c.feed.result c.feed.ensures.moved)

pub returns-clause-fed : goal.returns-clause-fed
returns-clause-fed g c =
    rw (← c.pass.view_is)
    (more_fed (fed_by c.pass.inside.past) c.pass.inside.fed.items c.feed.new.fed.items
    c.args.packet c.feed.result c.feed.ensures.fed)

pub returns-clause-looked : goal.returns-clause-looked
returns-clause-looked g c =
    rw (← c.pass.view_is)
    (looks_after (lost_by c.pass.inside.past) _ _ c.feed.result c.feed.ensures.looked)

pub returns-clause-none_fed : goal.returns-clause-none_fed
returns-clause-none_fed g c =
    rw (← c.pass.view_is)
    (none_fed (fed_by c.pass.inside.past) c.pass.inside.fed.items c.feed.new.fed.items
    c.args.packet c.feed.result c.feed.ensures.none_fed)

pub returns-clause-parts : goal.returns-clause-parts
returns-clause-parts g c =
    rw (← c.pass.view_is)
    (feed_parts c.passes_keep_their_parts.ensures.fed c.passes_keep_their_parts.ensures.looked
    (places_of c.args.self.now) (setting_of c.args.self.now) _ _ c.args.packet
    c.feed.result c.feed.ensures.moved c.feed.ensures.looked)
