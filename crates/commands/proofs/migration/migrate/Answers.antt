use Rattle.std.proofs.Common.{◌≡◌, ℕ, List, Option, Some, None, Result, Ok, Err, rules}
use Rattle.histories.specs.declared.histories.Histories.{Histories}
use Rattle.journals.specs.Journal.{journal}
use Rattle.journals.specs.declared.version.Version.{Version}
use Rattle.journals.specs.declared.version.Version.TheVariants.{Second}
use Rattle.journal_reading.specs.JournalFile.{IsJournal, version_of}
use Rattle.run_files.specs.declared.refusal.Refusal.{Refusal}
use Rattle.run_files.specs.Inputs.{JournalSays, Said}
use Rattle.commands.proofs.Endings.{none_is_refused}
use Rattle.commands.proofs.migration.migrate.Goals as goal

same_value : (a b : Histories) → ◌≡◌ {A = Result Histories Refusal} (Ok a) (Ok b) → a ≡ b
same_value a b same = cc

-- what a file tells has a journal of today
told_again : (file : Option (List ℕ)) (h : Histories) → Said JournalSays file (Ok h) →
    ((v : Version) (text : List ℕ) (g : Histories) → IsJournal v text g →
    IsJournal Second (journal g) g) → IsJournal Second (journal h) h
told_again (Some text) h says law = law (version_of text) text h says.1
told_again None h says law = absurd says

pub returns-clause-ended : goal.returns-clause-ended
returns-clause-ended g c =
    record {
      done = λ t. record {
        histories = c.in_ok-histories.histories;
        source_says = c.in_ok-histories.ensures.found t;
        only = λ h says. same_value h c.in_ok-histories.histories
            (c.in_ok-histories.ensures.only (Ok h) t says);
        target_is = search rules;
        tells_it = told_again _ c.in_ok-histories.histories
            (c.in_ok-histories.ensures.found t) c.each_journal_has_one_of_today.ensures.new;
      };
      refused = search rules;
      exact = λ i why is_i t refused.
          absurd (none_is_refused _ i (g.H.Host.content c.args.host.now) why is_i refused
          (λ same. c.in_ok-histories.ensures.only (Err why) t same));
      only = search rules;
      kind = search rules;
      read_fault = search rules;
      unread = search rules;
      write_fault = search rules;
      stopped = search rules;
      cut_short = search rules;
    }
