use Rattle.std.proofs.Common.{arith}
use Rattle.journals.proofs.Lengths.{marked_within}
use Rattle.journals.proofs.line_room.verdict_is_short.Goals as goal

pub returns : goal.returns
returns c =
    omega (
      arith,
      marked_within c.args.word.now c.args.queue c.args.head c.args.mark c.requires.word
          c.half.ensures c.head_fits.ensures c.some_wide.ensures,
    )
