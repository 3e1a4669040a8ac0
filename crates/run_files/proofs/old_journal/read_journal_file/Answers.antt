use Rattle.std.proofs.Common.{List, ℕ, Option, subst, sym}
use Rattle.run_files.specs.Inputs.{JournalSays, Said}
use Rattle.run_files.proofs.ReaderAnswers.{journal_taken, journal_refused}
use Rattle.run_files.proofs.old_journal.read_journal_file.Goals as goal

pub returns-in-Ok-clause-only : goal.returns-in-Ok-clause-only
returns-in-Ok-clause-only g c = λ said t says.
    journal_taken _ c.in_ok-bytes.bytes.items c.in-Ok.histories c.in_ok-bytes.ensures.within
    (rw (sym c.deref.ensures.value) c.in-Ok.ensures.only)
    (rw (sym c.deref.ensures.value) c.in-Ok.ensures.stuck) said
    (subst (λ (file : Option (List ℕ)). Said JournalSays file said)
    (c.in_ok-bytes.ensures.bytes t) says)

pub returns-clause-only : goal.returns-clause-only
returns-clause-only g c = λ said t says.
    rw c.of_journal.ensures
    (journal_refused _ c.in_ok-bytes.bytes.items c.in-Err.fault c.in_ok-bytes.ensures.within
    (rw (sym c.deref.ensures.value) c.in-Err.ensures.only)
    (rw (sym c.deref.ensures.value) c.in-Err.ensures.stuck) said
    (subst (λ (file : Option (List ℕ)). Said JournalSays file said)
    (c.in_ok-bytes.ensures.bytes t) says))
