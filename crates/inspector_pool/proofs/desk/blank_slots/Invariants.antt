use Rattle.std.proofs.Common.{◌≡◌, length}
use Rattle.std.specs.Prelude.{All}
use Rattle.inspector_pool.specs.declared.sheet.AnsweringPort.{AnsweringPort}
use Rattle.inspector_pool.proofs.desk.blank_slots.Given as goal

abbrev pub invariant-loop-slot : goal.invariant-loop-slot
invariant-loop-slot l =
    (length l.slots.items ≡ l._slot)
    × All (λ (p : AnsweringPort). p ≡ l.port) l.slots.items
