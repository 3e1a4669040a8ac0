use Rattle.std.proofs.Common.{ℕ, List, Option, Some, None, Ok}
use Rattle.histories.specs.declared.histories.Histories.{Histories}
use Rattle.journals.specs.WellFormed.{IsWellFormed}
use Rattle.run_files.specs.Inputs.{Said, TodaysJournalSays}
use Rattle.commands.proofs.audit.what_passes_its_audit_is_accounted_for.Goals as goal

-- what is read of a journal is well formed
formed : (file : Option (List ℕ)) (h : Histories) → Said TodaysJournalSays file (Ok h) →
    IsWellFormed h
formed None h said = absurd said
formed (Some text) h said = said.1.well_formed

pub returns-clause-told : goal.returns-clause-told
returns-clause-told c = λ a old x.
    c.told_histories_are_accounted_for.ensures 1 1 x.tables x.script x.capture x.histories
    (formed (old a.journal) x.histories x.told.journal_says) x.run

pub returns-clause-run : goal.returns-clause-run
returns-clause-run c = c.told_histories_are_accounted_for.ensures 1 1
