use Rattle.std.proofs.Common.{vec_len, vec_capacity}
use Rattle.generated.proofs.Rows.{IsCutting}
use Rattle.generated.proofs.captures.cut_out.Given as goal

abbrev pub invariant-loop-before : goal.invariant-loop-before
invariant-loop-before l =
    IsCutting l.number l.count l.before l.generator l.bytes l.at l.frames.items (vec_len l.frames)
    (vec_capacity l.frames)
