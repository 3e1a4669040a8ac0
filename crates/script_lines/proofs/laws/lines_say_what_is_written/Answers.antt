use Rattle.script_lines.proofs.LineForm.{spelled}
use Rattle.script_lines.proofs.laws.lines_say_what_is_written.Goals as goal

pub returns : goal.returns
returns c =
    spelled (record {
      numerals = c.numbers_are_spelled.ensures;
      bytes = c.bytes_are_spelled.ensures;
    })
