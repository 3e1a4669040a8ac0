use Rattle.journal_reading.proofs.FirstRefusal.{never_both}
use Rattle.journal_reading.proofs.laws.no_line_of_a_journal_is_refused.Goals as goal

pub returns : goal.returns
returns c = never_both
