use Rattle.std.proofs.Common.{◌≡◌, ◌<◌, ◌≤◌, drop, length, ap, arith}
use Rattle.std.proofs.lemmas.List.{take_rest}
use Rattle.text_lines.proofs.TextCuts.{lines-last, lines-ended}
use Rattle.text_lines.proofs.line.next_line.Goals as goal

pub returns-in-empty-clause-line : goal.returns-in-empty-clause-line
returns-in-empty-clause-line c =
    let text = c.args.text.now in
    let n = c.line_length.result in
    let some : 0 < length text = grind arith in
    let end : length (drop n text) ≡ 0 = omega (arith, ap length c.split_at.ensures.back) in
    rw (c.split_at.ensures.front, c.split_at.ensures.back)
    (lines-last n text c.line_length.ensures.before c.line_length.ensures.within some end)

pub returns-in-len1-up-clause-line : goal.returns-in-len1-up-clause-line
returns-in-len1-up-clause-line c =
    let text = c.args.text.now in
    let n = c.line_length.result in
    let more : 1 ≤ length (drop n text) = omega (arith, ap length c.split_at.ensures.back) in
    rw (
      c.without_carriage_return.ensures,
      take_rest c.split_at.result.1.now 1,
      c.split_at.ensures.front,
      c.split_at.ensures.back,
    )
    (lines-ended n text c.line_length.ensures.before c.line_length.ensures.at
    c.line_length.ensures.within more)
