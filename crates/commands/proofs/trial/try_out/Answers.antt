use Rattle.std.proofs.Common.{None, refl, rules}
use Rattle.commands.proofs.Endings.{none_read}
use Rattle.commands.proofs.trial.try_out.Goals as goal

pub returns-in_err-write_whole-clause-ended : goal.returns-in_err-write_whole-clause-ended
returns-in_err-write_whole-clause-ended g c =
    record {
      done = search rules;
      refused = search rules;
      exact = λ i why is_i t refused. absurd (none_read None i is_i refl);
      only = search rules;
      kind = search rules;
      read_fault = search rules;
      unread = search rules;
      write_fault = search rules;
      stopped = search rules;
      cut_short = search rules;
    }

pub returns-clause-ended : goal.returns-clause-ended
returns-clause-ended g c =
    record {
      done = search rules;
      refused = search rules;
      exact = λ i why is_i t refused. absurd (none_read None i is_i refl);
      only = search rules;
      kind = search rules;
      read_fault = search rules;
      unread = search rules;
      write_fault = search rules;
      stopped = search rules;
      cut_short = search rules;
    }
