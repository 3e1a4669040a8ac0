use Rattle.std.proofs.Common.{arith}
use Rattle.journals.proofs.Lengths.{new_priority_within}
use Rattle.journals.proofs.line_room.priority_is_short.Goals as goal

pub returns : goal.returns
returns c =
    omega (
      arith,
      new_priority_within c.args.version c.args.priority c.some_wide.ensures,
    )
