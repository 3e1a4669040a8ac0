use Rattle.queue_core.specs.declared.event.Event.TheVariants.{Ask}
use Rattle.packet_moves.proofs.OnwardCounts.{handed_in_time, no_more_than_waited}
use Rattle.packet_moves.proofs.MoveSoundness.{leaves_one}
use Rattle.packet_moves.proofs.laws.what_goes_on_is_in_time.Goals as goal

pub returns-clause-arrival : goal.returns-clause-arrival
returns-clause-arrival c q card bypass room = (leaves_one q card bypass room).one

pub returns-clause-request : goal.returns-clause-request
returns-clause-request c q port call request none =
    handed_in_time q port call request
    (c.each_packet_stays_or_leaves.ensures q (Ask port call request)) none

pub returns-clause-few : goal.returns-clause-few
returns-clause-few c q port call request =
    no_more_than_waited q port call request
    (c.each_packet_stays_or_leaves.ensures q (Ask port call request))
