use Rattle.std.proofs.Common.{sym, arith}
use Rattle.journals.proofs.Decimals.{one_digit, digits_are}
use Rattle.journals.proofs.placing.count_few.Goals as goal

pub returns-then-number-lt10-clause-digits : goal.returns-then-number-lt10-clause-digits
returns-then-number-lt10-clause-digits c = sym (one_digit c.args.number c.if-number-lt10.true)

pub returns-then-number-lt100-clause-digits : goal.returns-then-number-lt100-clause-digits
returns-then-number-lt100-clause-digits c =
    sym (digits_are 1 c.args.number c.if-number-lt10.false c.if-number-lt100.true (omega arith))

pub returns-then-number-lt1000-clause-digits : goal.returns-then-number-lt1000-clause-digits
returns-then-number-lt1000-clause-digits c =
    sym (digits_are 2 c.args.number c.if-number-lt100.false c.if-number-lt1000.true (omega arith))

pub returns-else-number-lt1000-clause-digits : goal.returns-else-number-lt1000-clause-digits
returns-else-number-lt1000-clause-digits c =
    sym (digits_are 3 c.args.number c.if-number-lt1000.false c.requires.few (omega arith))
