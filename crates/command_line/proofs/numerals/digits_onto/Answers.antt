use Rattle.std.proofs.Common.{◌∙◌, sym, arith}
use Rattle.command_line.proofs.Digits.{all_read, ends_here, goes_on}
use Rattle.command_line.proofs.numerals.digits_onto.Goals as goal

pub returns-in_err-number : goal.returns-in_err-number
returns-in_err-number c =
    c.from_residual.ensures
    ∙ sym (c.loop-digit.invariant
    ∙ ends_here c.loop-digit.number c.loop-digit.digit-index c.args.digits.now
    (omega arith) c.in_err-number.ensures)

pub loop-digit-preserved : goal.loop-digit-preserved
loop-digit-preserved c =
    c.loop-digit.invariant
    ∙ goes_on c.loop-digit.number c.loop-digit.digit-index c.in_ok-number.number
    c.args.digits.now (omega arith) c.in_ok-number.ensures

pub returns : goal.returns
returns c =
    sym (c.loop-digit.invariant
    ∙ all_read c.loop-digit.number c.loop-digit.digit-index c.args.digits.now (omega arith))
