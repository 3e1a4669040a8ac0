use Rattle.run_parts.specs.Feeder.{downs_after, falling_time}
use Rattle.plane.specs.Planes.{places_of}
use Rattle.feeder_set.specs.Steps.{AllFall}
use Rattle.live_work.specs.Feeding.{FedOn, shares_in}
use Rattle.live_work.proofs.SentAsks.{on_ok}
use Rattle.live_work.proofs.FallenDevices.{lines_fell}
use Rattle.live_work.proofs.FeederCalls.{lines_after_one}
use Rattle.live_work.proofs.feeding.take_down_after.Goals as goal

pub returns-clause-down : goal.returns-clause-down
returns-clause-down g c =
    let plane = c.args.stage.now.plane.now in
    let script = c.args.stage.now.script.now in
    let number = c.args.number in
    let due = downs_after script number in
    let old = c.args.pass.now in
    let new = c.fall_after.new.pass in
    on_ok c.fall_after.result (AllFall plane due old new)
    (FedOn (places_of plane) (falling_time number) (falling_time number) due (shares_in old)
    (shares_in new))
    (lines_fell
    (record {
      fell = c.feeders_feed_their_passes.ensures.falls;
      no_place = c.the_feeder_keeps_its_time.ensures.no_place;
      next_place = c.the_feeder_keeps_its_time.ensures.next_place;
    })
    plane c.the_feeder_keeps_its_time.ensures.waits due number old new
    (lines_after_one number script.downs) c.requires.pass)
    c.fall_after.ensures.fall
