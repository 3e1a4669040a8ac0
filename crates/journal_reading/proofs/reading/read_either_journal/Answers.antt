use Rattle.std.proofs.Common.{subst}
use Rattle.journals.specs.declared.version.Version.{Version}
use Rattle.journal_reading.specs.JournalFile.{IsAnswer, version_of}
use Rattle.journal_reading.proofs.FirstRefusal.{only_by}
use Rattle.journal_reading.proofs.OneLine.{stuck_by}
use Rattle.journal_reading.proofs.reading.read_either_journal.Goals as goal

pub returns-clause-only : goal.returns-clause-only
returns-clause-only c =
    only_by (version_of c.args.bytes.now) c.read_text.result c.args.bytes.now
    (subst (λ (v : Version). IsAnswer v c.read_text.result c.args.bytes.now)
    c.version_named.ensures c.read_text.ensures)

pub returns-clause-stuck : goal.returns-clause-stuck
returns-clause-stuck c =
    stuck_by (version_of c.args.bytes.now) c.read_text.result c.args.bytes.now
    (subst (λ (v : Version). IsAnswer v c.read_text.result c.args.bytes.now)
    c.version_named.ensures c.read_text.ensures)
