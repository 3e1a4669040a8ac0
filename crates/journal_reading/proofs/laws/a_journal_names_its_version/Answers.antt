use Rattle.journal_reading.proofs.VersionOrder.{names}
use Rattle.journal_reading.proofs.laws.a_journal_names_its_version.Goals as goal

pub returns : goal.returns
returns c = names
