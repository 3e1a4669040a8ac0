use Rattle.std.proofs.Common.{ap, ◌∙◌, inl, Some, List, ℕ, subst}
use Rattle.std.proofs.lemmas.Result.{IfErr-at_err, on_err_weaker, on_ok_weaker}
use Rattle.commands.proofs.Endings.{on_ok_both, same_texts}
use Rattle.command_line.specs.Arguments.{files_of}
use Rattle.run_files.specs.Files.{IsStoppedAfter, Text}
use Rattle.commands.proofs.play_run.write_run.Goals as goal

pub returns-clause-written : goal.returns-clause-written
returns-clause-written g c =
    on_ok_weaker c.write_outputs.result
    (λ w t. (
      w.0 t ∙ ap (λ (xs : List ℕ). Some xs) c.in_ok-outputs.ensures.output,
      (
        w.1.0 t ∙ ap (λ (xs : List ℕ). Some xs) c.in_ok-outputs.ensures.ledger,
        (w.1.1 t ∙ ap (λ (xs : List ℕ). Some xs) c.in_ok-outputs.ensures.journal, tt),
      ),
    ))
    (on_ok_both _ _ c.write_outputs.result c.write_outputs.ensures.output
    (on_ok_both _ _ c.write_outputs.result c.write_outputs.ensures.ledger
    c.write_outputs.ensures.journal))

pub returns-clause-other : goal.returns-clause-other
returns-clause-other g c =
    on_err_weaker c.write_outputs.result (λ is. inl is) c.write_outputs.ensures.only

pub returns-clause-cut_short : goal.returns-clause-cut_short
returns-clause-cut_short g c = λ is t.
    subst (λ (xs : List Text). IsStoppedAfter xs (g.H.Host.write_faults c.args.host.now)
    (g.H.Host.write_faults c.write_outputs.new.host) (g.H.Host.content c.args.host.now)
    (g.H.Host.content c.write_outputs.new.host))
    (same_texts (files_of c.args.files.now) _ _ _ _ _ _ c.in_ok-outputs.ensures.output
    c.in_ok-outputs.ensures.ledger c.in_ok-outputs.ensures.journal)
    (IfErr-at_err _ is c.write_outputs.ensures.cut_short t)
