use Rattle.std.proofs.Common.{sym, arith}
use Rattle.journals.proofs.Decimals.{digits_are}
use Rattle.journals.proofs.placing.put_long.Goals as goal

pub put_counted-requires-clause-counted : goal.put_counted-requires-clause-counted
put_counted-requires-clause-counted c =
    sym (digits_are 1 c.args.number c.requires.long c.if-number-lt100.true (omega arith))

pub put_counted-requires-then-number-lt1000-clause-counted :
    goal.put_counted-requires-then-number-lt1000-clause-counted
put_counted-requires-then-number-lt1000-clause-counted c =
    sym (digits_are 2 c.args.number c.if-number-lt100.false c.if-number-lt1000.true (omega arith))

pub put_counted-requires-then-number-lt10000-clause-counted :
    goal.put_counted-requires-then-number-lt10000-clause-counted
put_counted-requires-then-number-lt10000-clause-counted c =
    sym (digits_are 3 c.args.number c.if-number-lt1000.false c.if-number-lt10000.true (omega arith))

pub put_counted-requires-then-number-lt100000-clause-counted :
    goal.put_counted-requires-then-number-lt100000-clause-counted
put_counted-requires-then-number-lt100000-clause-counted c =
    sym (digits_are 4 c.args.number c.if-number-lt10000.false c.if-number-lt100000.true (omega arith))
