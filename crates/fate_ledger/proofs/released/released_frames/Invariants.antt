use Rattle.std.proofs.Common.{◌≡◌, ◌++◌, ◌≤◌, length}
use Rattle.std.specs.Prelude.{All}
use Rattle.packet_entry.specs.Numbers.{longest_packet}
use Rattle.fate_ledger.specs.Released as text
use Rattle.fate_ledger.proofs.released.released_frames.Given as goal

-- what was kept so far, and what of the rest will be
abbrev pub invariant-loop-line : goal.invariant-loop-line
invariant-loop-line l =
    (l.kept.items ++ text.frames l.link l.rest l.line-iterator ≡ text.frames l.link l.frames l.lines)
    × (length l.rest ≡ length l.line-iterator)
    × All (λ k. length k.payload ≤ longest_packet) l.line-iterator
