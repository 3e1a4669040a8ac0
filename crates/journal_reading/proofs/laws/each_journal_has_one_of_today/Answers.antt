use Rattle.std.proofs.Common.{sym}
use Rattle.journal_reading.proofs.VersionOrder.{of_today}
use Rattle.journal_reading.proofs.laws.each_journal_has_one_of_today.Goals as goal

pub returns-clause-new : goal.returns-clause-new
returns-clause-new c = of_today

pub returns-clause-stays : goal.returns-clause-stays
returns-clause-stays c = λ text h is. sym is.text_is
