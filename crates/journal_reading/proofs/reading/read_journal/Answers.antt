use Rattle.journals.specs.declared.version.Version.TheVariants.{Second}
use Rattle.journal_reading.proofs.FirstRefusal.{found_by, only_by, refused_by}
use Rattle.journal_reading.proofs.OneLine.{stuck_by}
use Rattle.journal_reading.proofs.reading.read_journal.Goals as goal

pub returns : goal.returns
returns c = record {
  found = found_by Second c.before.read_text.result c.args.bytes.now c.read_text.ensures;
  only = only_by Second c.before.read_text.result c.args.bytes.now c.read_text.ensures;
  refused = refused_by Second c.before.read_text.result c.args.bytes.now c.read_text.ensures;
  stuck = stuck_by Second c.before.read_text.result c.args.bytes.now c.read_text.ensures;
}
