use Rattle.std.proofs.Common.{◌≡◌, length}
use Rattle.plane.specs.Planes.{places_of}
use Rattle.live_work.specs.Feeding.{shares_in}
use Rattle.live_work.specs.Sharing.{SharePasses, share_cards}
use Rattle.live_work.proofs.SentAsks.{went_well}
use Rattle.live_work.proofs.feeding.Feeding.work.Goals as goal

pub returns : goal.returns
returns g c = record {
  fed = record {
    stays = c.feed_share-outcome.ensures.stays;
    looks = record { looks = c.feed_share-outcome.ensures.looks.looks };
    on = λ well. went_well c.feed_share-outcome.result _
        (SharePasses c.args.stage.now.script.now (places_of c.args.stage.now.plane.now) c.args.share
        (length c.args.capture.now.frames) (shares_in c.args.self.now.pass)
        (shares_in c.feed_share-outcome.new.feeding.pass))
        c.is_err-self.ensures.value well c.feed_share-outcome.ensures.on;
    fed = λ well. went_well c.feed_share-outcome.result _
        (c.feed_share-outcome.new.feeding.pass.fed ≡ share_cards c.args.share c.args.capture.now)
        c.is_err-self.ensures.value well c.feed_share-outcome.ensures.fed;
  };
}
