use Rattle.live_passes.proofs.ClosedPlane.{closed_plane}
use Rattle.live_passes.proofs.all.a_closed_plane_has_all_that_its_passes_did.Goals as goal

pub returns : goal.returns
returns c =
    let places = c.each_entry_is_one_rows_own.ensures in
    λ plane feeder ports closed h all is queues. closed_plane places.owner places.of_place plane
    feeder ports closed h
    (λ port. c.counts_say_what_was_sent.ensures plane feeder ports closed port all) all is queues
