use Rattle.journal_reading.proofs.OneValue.{same_journal}
use Rattle.journal_reading.proofs.WordCuts.{Laws}
use Rattle.journal_reading.proofs.laws.no_journal_begins_another.Goals as goal

pub returns : goal.returns
returns c =
    let laws : Laws = record {
      numerals = c.numbers_are_spelled.ensures;
      bytes = c.bytes_are_spelled.ensures;
    } in
    λ v text rest a b j k. (same_journal v laws text rest a b j k).0
