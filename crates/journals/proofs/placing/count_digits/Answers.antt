use Rattle.std.proofs.Common.{arith}
use Rattle.journals.proofs.Decimals.{more}
use Rattle.journals.proofs.placing.count_digits.Goals as goal

pub returns-then-number-lt100000000 : goal.returns-then-number-lt100000000
returns-then-number-lt100000000 c =
    omega (
      arith,
      c.count_few-then-number-lt100000000.ensures.digits,
      more 4 c.args.number c.if-number-lt10000.false c.ranges.number.fits,
    )

pub returns-then-number-lt1000000000000 : goal.returns-then-number-lt1000000000000
returns-then-number-lt1000000000000 c =
    omega (
      arith,
      c.count_few-then-number-lt1000000000000.ensures.digits,
      more 8 c.args.number c.if-number-lt100000000.false c.ranges.number.fits,
    )
