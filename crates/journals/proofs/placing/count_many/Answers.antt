use Rattle.std.proofs.Common.{arith}
use Rattle.journals.proofs.Decimals.{more}
use Rattle.journals.proofs.placing.count_many.Goals as goal

pub returns-then-number-lt10000000000000000 : goal.returns-then-number-lt10000000000000000
returns-then-number-lt10000000000000000 c =
    omega (
      arith,
      c.count_few.ensures.digits,
      more 12 c.args.number c.requires.many c.ranges.number.fits,
    )

pub returns-else-number-lt10000000000000000 : goal.returns-else-number-lt10000000000000000
returns-else-number-lt10000000000000000 c =
    omega (
      arith,
      c.count_few-else-number-lt10000000000000000.ensures.digits,
      more 16 c.args.number c.if-number-lt10000000000000000.false c.ranges.number.fits,
    )
