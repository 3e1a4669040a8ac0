use Rattle.journal_reading.proofs.EachText.{each_text}
use Rattle.journal_reading.proofs.WordCuts.{Laws}
use Rattle.journal_reading.proofs.laws.each_text_is_read_or_refused.Goals as goal

pub returns : goal.returns
returns c =
    let laws : Laws = record {
      numerals = c.numbers_are_spelled.ensures;
      bytes = c.bytes_are_spelled.ensures;
    } in
    λ v. each_text v laws
