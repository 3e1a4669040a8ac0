use Rattle.journal_reading.proofs.OneLine.{same_line}
use Rattle.journal_reading.proofs.laws.a_text_has_one_refused_line.Goals as goal

pub returns : goal.returns
returns c = same_line
