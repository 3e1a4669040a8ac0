use Rattle.std.proofs.Common.{◌≡◌, ℕ}
use Rattle.std.specs.Prelude.{◌||◌}
use Rattle.order_audit.specs.Sets.{has, is_asked}
use Rattle.order_audit.proofs.sets.asked_in.Given as goal

-- with what is still to come, all messages are in
abbrev pub invariant-loop-entry : goal.invariant-loop-entry
invariant-loop-entry l = (port call : ℕ) →
    has l.asked port call || is_asked port call l.entry-iterator ≡ is_asked port call l.entries
