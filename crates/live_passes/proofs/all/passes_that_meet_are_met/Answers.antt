use Rattle.live_passes.proofs.MeetingOfAll.{all_met}
use Rattle.live_passes.proofs.all.passes_that_meet_are_met.Goals as goal

pub returns : goal.returns
returns c = λ plane feeder feeder_then ports ports_then closed closed_then all meets.
    all_met c.passes_that_meet_see_the_same.ensures plane feeder feeder_then ports ports_then closed
    closed_then all meets
