-- The body of a request in pieces.
use Rattle.std.specs.Prelude.{ℕ, List, ◌++◌}
use Rattle.nfqa_msgs.specs.declared.request_pieces.Pieces.{Pieces}

-- one behind the other
abbrev pub pieces_text : Pieces → List ℕ
pieces_text p = p.before.items ++ p.payload.now ++ p.after.items
