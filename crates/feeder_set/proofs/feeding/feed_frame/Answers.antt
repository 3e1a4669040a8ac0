use Rattle.run_parts.specs.Entering.{card_of}
use Rattle.feeder_set.proofs.FramePackets.{is_fresh, card_fed}
use Rattle.feeder_set.proofs.feeding.feed_frame.Goals as goal

pub feed-requires-clause-new : goal.feed-requires-clause-new
feed-requires-clause-new g c κs within =
    is_fresh c.args.capture.now c.args.number c.args.frame.now c.in-Some.packet
    (rw c.in-Some.is at c.in_ok-packet.ensures)

pub returns-in-Ok-clause-fed : goal.returns-in-Ok-clause-fed
returns-in-Ok-clause-fed g c =
    card_fed c.args.stage.now.plane.now
    (card_of c.args.capture.now c.args.number c.args.frame.now) c.in-Some.packet
    c.args.pass.now c.feed.new.pass _ (rw c.in-Some.is at c.in_ok-packet.ensures)
    c.in-Ok.ensures.moved c.in-Ok.ensures.fed c.feed.ensures.pass
