use Rattle.std.proofs.Common.{◌≡◌, ℕ, take}
use Rattle.std.specs.Prelude.{◌||◌}
use Rattle.order_audit.specs.Sets.{has, is_among}
use Rattle.order_audit.proofs.sets.put_all.Given as goal

-- those so far are in, and what was in before
abbrev pub invariant-loop-number : goal.invariant-loop-number
invariant-loop-number l = (a b : ℕ) → has l.pairs a b
    ≡ is_among a b (take l.number-index l.visits) || has l.fn.pairs a b
