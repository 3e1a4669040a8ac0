use Rattle.turn_lock.proofs.Trees.{union_sym, union_assoc, union_pieces, union_moved}
use Rattle.turn_lock.proofs.laws.parts_are_put_together_in_any_order.Goals as goal

pub returns : goal.returns
returns c =
    record { sides = union_sym; order = union_assoc; moved = union_moved; back = union_pieces }
