use Rattle.std.proofs.Common.{◌∙◌, ◌++◌, List, ap, arith, false, length}
use Rattle.std.proofs.Common.{subst}
use Rattle.std.proofs.Common.{sym}
use Rattle.packet_entry.specs.declared.packet.Card.{Card}
use Rattle.plane.specs.Passes.{FeederView}
use Rattle.plane.specs.Planes.{places_of}
use Rattle.feeder_set.specs.Shares.{FeederState}
use Rattle.feeder_set.specs.Steps.{PassesNext, Steps}
use Rattle.live_work.specs.Feeding.{shares_in}
use Rattle.live_work.specs.Sharing.{SharePasses}
use Rattle.live_work.proofs.UnchangedPass.{feeder_here, feeder_stays}
use Rattle.live_work.proofs.SharePackets.{fed_all, fed_next, few_more, left_cards, left_first}
use Rattle.live_work.proofs.SharePackets.{next_within}
use Rattle.live_work.proofs.ShareWalk.{IsUpTo, ShareLaws, up_to_first, up_to_last, up_to_next}
use Rattle.live_work.proofs.feeding.feed_share.Given.{Over}
use Rattle.live_work.proofs.feeding.feed_share.Goals as goal
use Rattle.live_work.proofs.feeding.feed_share.Goals.{After-the_feeder_keeps_its_time}

-- the laws of a share, all at once
laws : (g : Over) (c : After-the_feeder_keeps_its_time g) → ShareLaws
laws g c = record {
  begins = c.a_feeder_keeps_its_share.ensures.begins;
  waits = c.a_feeder_keeps_its_share.ensures.waits;
  feeds = c.a_feeder_keeps_its_share.ensures.feeds;
  falls = c.a_feeder_keeps_its_share.ensures.falls;
  fed = c.feeders_feed_their_passes.ensures.feeds;
  down = record {
    fell = c.feeders_feed_their_passes.ensures.falls;
    no_place = c.the_feeder_keeps_its_time.ensures.no_place;
    next_place = c.the_feeder_keeps_its_time.ensures.next_place;
  };
  grows = c.the_feeder_keeps_its_time.ensures.fed;
  first = c.lines_of_a_share_add_up.ensures.first;
  on = c.lines_of_a_share_add_up.ensures.on;
  none = c.lines_of_a_share_add_up.ensures.none;
  more = c.lines_of_a_share_add_up.ensures.more;
  all = c.lines_of_a_share_add_up.ensures.all;
}

pub loop-step-init : goal.loop-step-init
loop-step-init g c =
    let every = laws g (goal.at.loop-step-init g c).After-the_feeder_keeps_its_time in
    let s = c.args.share in
    let first = c.new-feeder.ensures.first in
    let share = ap (λ (f : FeederState). f.share) first in
    let next = ap (λ (f : FeederState). f.next) first in
    let none = ap (λ (l : List Card). length l) c.requires.none in
    record {
      stays = feeder_here c.args.stage.now.plane.now c.args.feeding.now.pass c.requires.pass;
      looks = c.requires.looks;
      share = share;
      next = c.new-feeder.ensures.next;
      many = omega (arith, next);
      near = omega (arith, next, c.requires.number);
      few = omega (arith, none);
      fed = ap (λ (l : List Card). l ++ left_cards s c.args.capture.now c.new-feeder.result.next)
          c.requires.none
          ∙ ap (λ n. left_cards s c.args.capture.now n) next
          ∙ left_first c.each_frame_is_one_shares.ensures.first s c.args.capture.now
          c.requires.number;
      up = subst (λ n. IsUpTo c.args.stage.now.script.now (places_of c.args.stage.now.plane.now) s n
          (shares_in c.args.feeding.now.pass) (shares_in c.args.feeding.now.pass)) (sym next)
          (up_to_first every c.args.stage.now.script.now (places_of c.args.stage.now.plane.now) s
          (shares_in c.args.feeding.now.pass) c.requires.number);
    }

pub loop-step-preserved : goal.loop-step-preserved
loop-step-preserved g c =
    let every = laws g (goal.at.loop-step-preserved g c).After-the_feeder_keeps_its_time in
    let plane = c.args.stage.now.plane.now in
    let script = c.args.stage.now.script.now in
    let capture = c.args.capture.now in
    let s = c.args.share in
    let was = c.loop-step.feeder in
    let now = c.step_by.new.self in
    let old = c.loop-step.feeding.pass in
    let new = c.step_by.new.pass in
    let goes : PassesNext plane script capture was now old new =
    subst (λ b. Steps plane script capture was now old new b) c.if-not-branch.false
    c.in_ok-step_by.ensures.stepped in
    let within = next_within plane script capture was now s old new c.loop-step.invariant.share
    goes c.loop-step.invariant.next in
    record {
      stays = feeder_stays plane c.args.feeding.now.pass old new c.loop-step.invariant.stays
          c.step_by.ensures.pass c.step_by.ensures.parts;
      looks = record { looks = c.hold_back.ensures.looks };
      share = within.0;
      next = c.step_by.ensures.next;
      many = omega (arith, within.2, c.loop-step.invariant.many, c.requires.feeders.0);
      near = omega (arith, within.1, within.2);
      few = few_more plane script capture was now old new c.loop-step.step goes
          c.loop-step.invariant.few;
      fed = fed_next c.each_frame_is_one_shares.ensures.own
          c.each_frame_is_one_shares.ensures.between plane script capture s was now old new
          c.loop-step.invariant.share c.loop-step.invariant.next goes c.loop-step.invariant.fed;
      up = up_to_next every plane script capture was now s (shares_in c.args.feeding.now.pass)
          old new c.loop-step.invariant.share c.requires.number c.loop-step.invariant.stays.of goes
          c.step_by.ensures.pass c.loop-step.invariant.up;
    }

pub returns-in_err-downs-clause-stays : goal.returns-in_err-downs-clause-stays
returns-in_err-downs-clause-stays g c =
    feeder_here c.args.stage.now.plane.now c.args.feeding.now.pass c.requires.pass

pub returns-then-not-branch-clause-on : goal.returns-then-not-branch-clause-on
returns-then-not-branch-clause-on g c =
    let at = goal.at.returns-then-not-branch-clause-on g c in
    let every = laws g at.After-the_feeder_keeps_its_time in
    let plane = c.args.stage.now.plane.now in
    let capture = c.args.capture.now in
    let frames = length capture.frames in
    let s = c.args.share in
    let none : Steps plane c.args.stage.now.script.now capture c.loop-step.feeder c.step_by.new.self
    c.loop-step.feeding.pass c.step_by.new.pass false =
    subst (λ b. Steps plane c.args.stage.now.script.now capture c.loop-step.feeder
    c.step_by.new.self
    c.loop-step.feeding.pass c.step_by.new.pass b) c.if-not-branch.true
    c.in_ok-step_by.ensures.stepped in
    subst (λ (p : FeederView). SharePasses c.args.stage.now.script.now (places_of plane) s frames
    (shares_in c.args.feeding.now.pass) (shares_in p)) (sym none.1.1)
    (up_to_last every c.args.stage.now.script.now (places_of plane) frames
    c.loop-step.feeder.next s (shares_in c.args.feeding.now.pass)
    (shares_in c.loop-step.feeding.pass) c.requires.number
    none.0 c.loop-step.invariant.near c.loop-step.invariant.up)

pub returns-then-not-branch-clause-fed : goal.returns-then-not-branch-clause-fed
returns-then-not-branch-clause-fed g c =
    let plane = c.args.stage.now.plane.now in
    let capture = c.args.capture.now in
    let none : Steps plane c.args.stage.now.script.now capture c.loop-step.feeder c.step_by.new.self
    c.loop-step.feeding.pass c.step_by.new.pass false =
    subst (λ b. Steps plane c.args.stage.now.script.now capture c.loop-step.feeder
    c.step_by.new.self
    c.loop-step.feeding.pass c.step_by.new.pass b) c.if-not-branch.true
    c.in_ok-step_by.ensures.stepped in
    ap (λ (p : FeederView). p.fed) none.1.1
    ∙ fed_all c.args.share capture c.loop-step.feeder.next c.loop-step.feeding.pass.fed none.0
    c.loop-step.invariant.fed

pub returns-clause-on : goal.returns-clause-on
returns-clause-on g c =
    let every = laws g (goal.at.returns-clause-on g c).After-the_feeder_keeps_its_time in
    let plane = c.args.stage.now.plane.now in
    let frames = length c.args.capture.now.frames in
    up_to_last every c.args.stage.now.script.now (places_of plane) frames
    c.loop-step.feeder.next c.args.share (shares_in c.args.feeding.now.pass)
    (shares_in c.loop-step.feeding.pass) c.requires.number
    (omega (
      arith,
      c.loop-step-test.false,
      c.len-step-end.ensures,
      c.loop-step.auto.step-end,
      c.loop-step.invariant.many,
    )) c.loop-step.invariant.near c.loop-step.invariant.up

pub returns-clause-fed : goal.returns-clause-fed
returns-clause-fed g c =
    fed_all c.args.share c.args.capture.now c.loop-step.feeder.next c.loop-step.feeding.pass.fed
    (omega (
      arith,
      c.loop-step-test.false,
      c.len-step-end.ensures,
      c.loop-step.auto.step-end,
      c.loop-step.invariant.many,
    )) c.loop-step.invariant.fed
