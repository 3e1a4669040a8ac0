use Rattle.std.proofs.Common.{IsTrue, List, ℕ, None, OnOk, refl, rules, subst}
use Rattle.std.proofs.lemmas.Result.{IfErr-at_err}
use Rattle.command_line.specs.Arguments.{inputs_of}
use Rattle.run_files.specs.Files.{AreWritten, IsStoppedAfter}
use Rattle.commands.specs.Headline.{input_texts}
use Rattle.commands.proofs.Endings.{in_no_other_way, none_read, writing_refuses_nothing}
use Rattle.commands.proofs.generation.generate.Goals as goal

pub returns-clause-ended : goal.returns-clause-ended
returns-clause-ended g c =
    record {
      done =
          subst (λ (bytes : List ℕ). OnOk c.write_inputs.result
          (IsTrue (g.H.Host.tells c.args.host.now) →
          AreWritten (input_texts (inputs_of c.args.files.now.files) bytes)
          (g.H.Host.content c.write_inputs.new.host)))
          c.in_ok-capture.ensures c.write_inputs.ensures.written;
      refused = writing_refuses_nothing _ c.write_inputs.result c.write_inputs.ensures.only;
      exact = λ i why is_i t refused. absurd (none_read None i is_i refl);
      only = search rules;
      kind = writing_refuses_nothing _ c.write_inputs.result c.write_inputs.ensures.only;
      read_fault = search rules;
      unread = search rules;
      write_fault = search rules;
      stopped = search rules;
      cut_short = λ stopped t.
          subst (λ (bytes : List ℕ).
          IsStoppedAfter (input_texts (inputs_of c.args.files.now.files) bytes)
          (g.H.Host.write_faults c.args.host.now) (g.H.Host.write_faults c.write_inputs.new.host)
          (g.H.Host.content c.args.host.now) (g.H.Host.content c.write_inputs.new.host))
          c.in_ok-capture.ensures
          (IfErr-at_err _ stopped c.write_inputs.ensures.cut_short t);
    }

pub returns-clause-untouched : goal.returns-clause-untouched
returns-clause-untouched g c =
    in_no_other_way _ c.write_inputs.result _ c.write_inputs.ensures.only
