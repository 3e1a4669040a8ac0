use Rattle.std.proofs.Common.{ℕ, List, length}
use Rattle.run_parts.specs.Log.{Note}
use Rattle.journal_audit.specs.Given.{AreGiven}
use Rattle.journal_audit.specs.Parts.{HoldUpTo}
use Rattle.journal_audit.proofs.parts.first_wrong.Given as goal

-- each part before the next one holds
abbrev pub invariant-loop-part : goal.invariant-loop-part
invariant-loop-part l =
    (notes : ℕ → List Note) → AreGiven l.fn.script l.fn.histories l.fn.walked notes →
    HoldUpTo l.fn.script (length l.fn.capture.frames) l.fn.histories notes l.part-index
