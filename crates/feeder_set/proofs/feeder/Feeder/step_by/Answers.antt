use Rattle.std.proofs.Common.{◌≤◌, length, refl, sym}
use Rattle.packet_entry.specs.Numbers.{longest_packet}
use Rattle.pcap_io.specs.declared.capture.Frame.{Frame}
use Rattle.feeder_set.proofs.FramePackets.{frame_is}
use Rattle.feeder_set.proofs.ShareFrames.{then_next}
use Rattle.feeder_set.proofs.feeder.Feeder.step_by.Goals as goal

pub feed_frame-requires-clause-bytes : goal.feed_frame-requires-clause-bytes
feed_frame-requires-clause-bytes g c κs within =
    frame_is (λ (f : Frame). length f.bytes ≤ longest_packet) c.args.capture.now.frames _
    c.in-Some.frame.now (sym c.in-Some.ensures.value) c.requires.bytes

pub invariant_of-self : goal.invariant_of-self
invariant_of-self g c = then_next c.self.inside.share c.self.inside.next c.self.invariant

pub returns-clause-next : goal.returns-clause-next
returns-clause-next g c = then_next c.self.inside.share c.self.inside.next c.self.invariant

pub returns-clause-stepped : goal.returns-clause-stepped
returns-clause-stepped g c =
    rw (← c.self.view_is)
    (record {
      frame = c.in-Some.frame.now;
      there = sym c.in-Some.ensures.value;
      between = c.feed_frame.new.pass;
      fed = c.in_ok-feed_frame.ensures.fed;
      fell = c.in_ok-fall_after.ensures.fall;
      on = refl;
    })
