use Rattle.journal_reading.proofs.OneValue.{one_value}
use Rattle.journal_reading.proofs.WordCuts.{Laws}
use Rattle.journal_reading.proofs.laws.a_text_has_one_value.Goals as goal

pub returns : goal.returns
returns c =
    let laws : Laws = record {
      numerals = c.numbers_are_spelled.ensures;
      bytes = c.bytes_are_spelled.ensures;
    } in
    λ v. one_value v laws
