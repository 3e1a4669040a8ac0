use Rattle.std.proofs.Common.{ℕ, ◌+◌, ◌≤◌, length}
use Rattle.std.specs.List.{flat_map}
use Rattle.run_files.specs.Parts.{AreLinesWithin}
use Rattle.run_files.proofs.line_room.Room.with_lines.Given as goal

-- what holds of the lines still to come, within any bound from here on, holds of all
abbrev pub invariant-loop-line : goal.invariant-loop-line
invariant-loop-line g l = record {
  longest_stays : l.fn.self.longest ≤ l.more.longest;
  lines : (most : ℕ) → l.more.longest ≤ most →
      AreLinesWithin g.L.Line.text most l.line-iterator → AreLinesWithin g.L.Line.text most l.lines;
  bytes_fit : l.fn.self.all + length (flat_map g.L.Line.text l.lines)
      ≤ l.more.all + length (flat_map g.L.Line.text l.line-iterator);
}
