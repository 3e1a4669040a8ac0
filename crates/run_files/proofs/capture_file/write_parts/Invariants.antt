use Rattle.std.proofs.Common.{[], ◌+◌, ◌≤◌, length, IsTrue}
use Rattle.std.specs.Prelude.{vec_capacity}
use Rattle.std.specs.List.{flat_map, AllByRecursion}
use Rattle.host_io.specs.Host.{IsLater, ChangesOnly}
use Rattle.packet_entry.specs.Numbers.{longest_packet}
use Rattle.pcap_io.specs.Numbers.{record_header_length}
use Rattle.pcap_io.specs.Text.{capture_text, record_text}
use Rattle.run_files.proofs.TextParts.{IsUnderway}
use Rattle.run_files.proofs.capture_file.write_parts.Given as goal

abbrev pub invariant-loop-frame : goal.invariant-loop-frame
invariant-loop-frame g l = record {
  underway : IsUnderway (IsTrue (g.H.Host.tells l.fn.host))
      (g.H.Host.content l.fn.host l.name) 0 []
      (g.H.Host.content l.host l.name) l.part.at l.part.bytes.items
      (capture_text l.capture) (flat_map (record_text l.capture.big) l.frame-iterator);
  lengths : AllByRecursion (λ f. length f.bytes ≤ longest_packet) l.frame-iterator;
  room : record_header_length + longest_packet ≤ vec_capacity l.part.bytes;
  files : ChangesOnly l.name (g.H.Host.content l.fn.host) (g.H.Host.content l.host);
  later : IsLater g.H.Host.tells g.H.Host.read_faults g.H.Host.write_faults l.fn.host l.host;
}
