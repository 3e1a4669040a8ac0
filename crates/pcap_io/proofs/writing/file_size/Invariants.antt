use Rattle.std.proofs.Common.{◌≡◌, ◌+◌, length}
use Rattle.std.specs.List.{flat_map}
use Rattle.pcap_io.specs.Text.{record_text, capture_text}
use Rattle.pcap_io.proofs.writing.file_size.Given as goal

abbrev pub invariant-loop-frame : goal.invariant-loop-frame
invariant-loop-frame l =
    l.size + length (flat_map (record_text l.capture.big) l.frame-iterator)
    ≡ length (capture_text l.capture)
