use Rattle.std.proofs.Common.{◌≡◌, ◌≤◌, ◌+◌, ◌++◌, length}
use Rattle.plane.specs.Planes.{places_of}
use Rattle.feeder_set.specs.Shares.{IsNextOf}
use Rattle.live_passes.specs.Numbered.{StaysFeeder}
use Rattle.live_work.specs.Feeding.{IsFeedingOf, shares_in}
use Rattle.live_work.specs.Sharing.{share_cards}
use Rattle.live_work.proofs.SharePackets.{left_cards}
use Rattle.live_work.proofs.ShareWalk.{IsUpTo}
use Rattle.live_work.proofs.feeding.feed_share.Given as goal

abbrev pub invariant-loop-step : goal.invariant-loop-step
invariant-loop-step g l = record {
  stays : StaysFeeder l.stage.plane.now l.initial.feeding.pass l.feeding.pass;
  looks : IsFeedingOf l.stage.plane.now l.feeding;
  share : l.feeder.share ≡ l.fn.share;
  next : IsNextOf l.feeder.share l.feeder.next;
  many : l.step + 1 ≤ l.feeder.next;
  near : l.feeder.next ≤ length l.capture.frames + l.fn.share.feeders;
  few : length l.feeding.pass.fed ≤ l.step;
  fed : l.feeding.pass.fed ++ left_cards l.fn.share l.capture l.feeder.next
      ≡ share_cards l.fn.share l.capture;
  up : IsUpTo l.stage.script.now (places_of l.stage.plane.now) l.fn.share l.feeder.next
      (shares_in l.initial.feeding.pass) (shares_in l.feeding.pass);
}
