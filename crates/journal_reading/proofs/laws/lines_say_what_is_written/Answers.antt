use Rattle.std.proofs.Common.{◌∙◌, ap}
use Rattle.journal_reading.specs.Reading.{line_in}
use Rattle.journal_reading.proofs.WordCuts.{Laws}
use Rattle.journal_reading.proofs.LineForm.{line_word}
use Rattle.journal_reading.proofs.laws.lines_say_what_is_written.Goals as goal

pub returns : goal.returns
returns c =
    let laws : Laws = record {
      numerals = c.numbers_are_spelled.ensures;
      bytes = c.bytes_are_spelled.ensures;
    } in
    λ v line said. (
      λ e. (line_word v laws).spelled line said e,
      λ h. ap (line_in v) h.1 ∙ (line_word v laws).again said h.0,
    )
