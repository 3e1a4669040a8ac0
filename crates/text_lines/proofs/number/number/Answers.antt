use Rattle.std.proofs.Common.{◌^◌, ◌<◌, ◌∙◌, sym, arith}
use Rattle.text_lines.proofs.Digits.{onto-no_digit, onto-no_room, onto-digit, onto-end}
use Rattle.text_lines.proofs.number.number.Goals as goal

pub returns-in_err-digit : goal.returns-in_err-digit
returns-in_err-digit c =
    c.from_residual.ensures
    ∙ sym (c.loop-byte.invariant.0
    ∙ onto-no_digit c.args.radix c.loop-byte.number c.loop-byte.byte-index c.args.word.now
    (omega arith) c.in_err-digit.ensures)

pub returns-in_err-number : goal.returns-in_err-number
returns-in_err-number c =
    c.from_residual-in_err-number.ensures
    ∙ sym (c.loop-byte.invariant.0
    ∙ onto-no_room c.args.radix c.loop-byte.number c.loop-byte.byte-index c.in_ok-digit.digit
    c.args.word.now c.requires (omega arith) c.in_ok-digit.ensures c.in_err-number.ensures)

pub loop-byte-preserved : goal.loop-byte-preserved
loop-byte-preserved c = (
  c.loop-byte.invariant.0
      ∙ onto-digit c.args.radix c.loop-byte.number c.loop-byte.byte-index c.in_ok-digit.digit
      c.in_ok-number.number c.args.word.now (omega arith)
      c.in_ok-digit.ensures c.in_ok-number.ensures,
  let fits : c.in_ok-number.number < 2 ^ 32 = grind arith in fits,
)

pub returns : goal.returns
returns c =
    sym (c.loop-byte.invariant.0 ∙ onto-end c.args.radix c.loop-byte.number c.loop-byte.byte-index
    c.args.word.now (omega arith) c.loop-byte.invariant.1)
