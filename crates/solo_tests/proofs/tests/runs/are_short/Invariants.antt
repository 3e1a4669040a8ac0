use Rattle.std.proofs.Common.{◌≤◌, length}
use Rattle.std.specs.Prelude.{All}
use Rattle.packet_entry.specs.Numbers.{longest_packet}
use Rattle.solo_tests.proofs.tests.runs.are_short.Given as goal

-- where those that are left are short, all are
abbrev pub invariant-loop-frame : goal.invariant-loop-frame
invariant-loop-frame l =
    All (λ k. length k.bytes ≤ longest_packet) l.frame-iterator →
    All (λ k. length k.bytes ≤ longest_packet) l.frames
