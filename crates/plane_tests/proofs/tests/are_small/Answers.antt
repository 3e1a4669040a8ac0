use Rattle.std.proofs.Common.{◌≤◌, length, sym, subst, arith}
use Rattle.std.specs.Prelude.{All}
use Rattle.std.proofs.lemmas.List.Elements.{All-cons}
use Rattle.packet_entry.specs.Numbers.{longest_packet}
use Rattle.pcap_io.specs.declared.capture.Frame.{Frame}
use Rattle.plane_tests.proofs.tests.are_small.Goals as goal

abbrev Short : Frame → Type 0
Short k = length k.bytes ≤ longest_packet

pub loop-frame-preserved : goal.loop-frame-preserved
loop-frame-preserved c =
    λ rest. c.loop-frame.invariant
    (subst (All Short) (sym c.in-Some.ensures.steps)
    (All-cons Short c.in-Some.frame.now _ (omega arith) rest))
