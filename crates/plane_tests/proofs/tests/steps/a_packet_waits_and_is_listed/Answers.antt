use Rattle.plane_tests.proofs.AllPasses.{feeder_goes}
use Rattle.plane_tests.proofs.tests.steps.a_packet_waits_and_is_listed.Goals as goal

pub close-histories-requires : goal.close-histories-requires
close-histories-requires g c =
    feeder_goes c.parts_stay_whole.ensures c.all_happen-done.new.opened
    c.listing-listed.new.pass c.all_happen-done.ensures.going c.listing-listed.ensures.pass
    c.listing-listed.ensures.parts
