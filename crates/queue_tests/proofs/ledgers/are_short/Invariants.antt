use Rattle.std.proofs.Common.{◌≤◌, length}
use Rattle.std.specs.Prelude.{All}
use Rattle.packet_entry.specs.Numbers.{longest_packet}
use Rattle.queue_tests.proofs.ledgers.are_short.Given as goal

-- where those that are left are short, all are
abbrev pub invariant-loop-line : goal.invariant-loop-line
invariant-loop-line l =
    All (λ k. length k.payload ≤ longest_packet) l.line-iterator →
    All (λ k. length k.payload ≤ longest_packet) l.lines
