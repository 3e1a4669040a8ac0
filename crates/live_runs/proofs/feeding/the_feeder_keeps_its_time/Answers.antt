use Rattle.std.proofs.Common.{refl}
use Rattle.live_runs.specs.Owners.{IsNotFed}
use Rattle.live_runs.proofs.Marks.{met_grows}
use Rattle.live_runs.proofs.FeederLines.{feeds_feeding, feeds_grows, first_feeding, grown_feeding}
use Rattle.live_runs.proofs.FeederLines.{later_feeding, nothing_down, one_down}
use Rattle.live_runs.proofs.feeding.the_feeder_keeps_its_time.Goals as goal

pub returns : goal.returns
returns c =
    let laws = c.fed_histories_go_on.ensures in
    record {
      begins = first_feeding laws;
      meets = λ time fallen xs es is. grown_feeding laws time fallen xs _
          (met_grows IsNotFed xs _ es refl) is;
      waits = later_feeding laws;
      feeds = λ places time route fallen card old new some less is are. feeds_feeding laws places
          time card.number route fallen card old new some refl less is are;
      fed = feeds_grows;
      no_place = nothing_down;
      next_place = one_down laws;
    }
