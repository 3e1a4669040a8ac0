use Rattle.std.proofs.Common.{rules}
use Rattle.run_files.specs.declared.stop.Stop.TheVariants as stop
use Rattle.commands.proofs.Endings.{by_this_alone, none_is_refused}
use Rattle.commands.proofs.list.list_files.Goals as goal

pub returns-in_err-write_whole-clause-ended : goal.returns-in_err-write_whole-clause-ended
returns-in_err-write_whole-clause-ended g c =
    record {
      done = search rules;
      refused = search rules;
      exact = λ i why is_i t refused.
          absurd (none_is_refused _ i (g.H.Host.content c.args.host.now) why is_i refused
          (λ same. c.in_ok-made.ensures.exact why t same));
      only = search rules;
      kind = search rules;
      read_fault = search rules;
      unread = search rules;
      write_fault = search rules;
      stopped = search rules;
      cut_short = search rules;
    }

pub returns-in_err-write_whole-clause-untouched :
    goal.returns-in_err-write_whole-clause-untouched
returns-in_err-write_whole-clause-untouched g c =
    by_this_alone _ c.from_residual-in_err-write_whole.result stop.WriteFault
    c.from_residual-in_err-write_whole.ensures.1

pub returns-clause-ended : goal.returns-clause-ended
returns-clause-ended g c =
    record {
      done = search rules;
      refused = search rules;
      exact = λ i why is_i t refused.
          absurd (none_is_refused _ i (g.H.Host.content c.args.host.now) why is_i refused
          (λ same. c.in_ok-made.ensures.exact why t same));
      only = search rules;
      kind = search rules;
      read_fault = search rules;
      unread = search rules;
      write_fault = search rules;
      stopped = search rules;
      cut_short = search rules;
    }
