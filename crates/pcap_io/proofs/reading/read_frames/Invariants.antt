use Rattle.std.proofs.Common.{length, ◌-◌, ◌≤◌, take}
use Rattle.pcap_io.specs.Numbers.{file_header_length}
use Rattle.pcap_io.specs.Text.{IsCapture}
use Rattle.pcap_io.proofs.reading.read_frames.Given as goal

abbrev pub invariant-loop-at : goal.invariant-loop-at
invariant-loop-at l = record {
  past : file_header_length ≤ l.at;
  within : l.at ≤ length l.bytes;
  read : IsCapture (take l.at l.bytes) l.capture;
}

abbrev pub decreases-loop-at : goal.decreases-loop-at
decreases-loop-at l = length l.bytes - l.at
