use Rattle.std.proofs.Common.{◌≤◌, IsTrue}
use Rattle.std.specs.Prelude.{vec_capacity}
use Rattle.std.specs.List.{flat_map}
use Rattle.host_io.specs.Host.{ChangesOnly, IsLater}
use Rattle.run_files.specs.Parts.{AreLinesWithin}
use Rattle.run_files.proofs.TextParts.{IsUnderway}
use Rattle.run_files.proofs.line_writing.write_list.Given as goal

abbrev pub invariant-loop-line : goal.invariant-loop-line
invariant-loop-line g l = record {
  underway : IsUnderway (IsTrue (g.H.Host.tells l.fn.host))
      (g.H.Host.content l.fn.host l.name) l.fn.part.at l.fn.part.bytes.items
      (g.H.Host.content l.host l.name) l.part.at l.part.bytes.items
      (flat_map g.L.Line.text l.lines) (flat_map g.L.Line.text l.line-iterator);
  lines : AreLinesWithin g.L.Line.text l.longest l.line-iterator;
  capacity : vec_capacity l.fn.part.bytes ≤ vec_capacity l.part.bytes;
  files : ChangesOnly l.name (g.H.Host.content l.fn.host) (g.H.Host.content l.host);
  later : IsLater g.H.Host.tells g.H.Host.read_faults g.H.Host.write_faults l.fn.host l.host;
}
