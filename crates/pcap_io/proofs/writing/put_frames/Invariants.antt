use Rattle.std.proofs.Common.{◌≡◌, ◌+◌, ◌≤◌, ◌++◌, length, vec_len}
use Rattle.std.specs.Prelude.{vec_capacity}
use Rattle.std.specs.List.{flat_map, AllByRecursion}
use Rattle.packet_entry.specs.Numbers.{longest_packet}
use Rattle.pcap_io.specs.Text.{record_text, FrameFits}
use Rattle.pcap_io.proofs.writing.put_frames.Given as goal

abbrev pub invariant-loop-frame : goal.invariant-loop-frame
invariant-loop-frame l = record {
  lengths : AllByRecursion (λ f. length f.bytes ≤ longest_packet) l.frame-iterator;
  fit : AllByRecursion FrameFits l.frame-iterator → AllByRecursion FrameFits l.frames;
  room : vec_len l.out + length (flat_map (record_text l.big) l.frame-iterator)
      ≤ vec_capacity l.out;
  written : l.out.items ++ flat_map (record_text l.big) l.frame-iterator
      ≡ l.fn.out.items ++ flat_map (record_text l.big) l.frames;
}
