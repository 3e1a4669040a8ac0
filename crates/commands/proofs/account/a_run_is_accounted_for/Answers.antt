use Rattle.std.specs.Prelude.{length, []}
use Rattle.commands.proofs.WellFormedHistories.{well_formed}
use Rattle.commands.proofs.account.a_run_is_accounted_for.Goals as goal

pub returns : goal.returns
returns c = λ workers feeders tables script capture h es is fit grouped run.
    c.told_histories_are_accounted_for.ensures workers feeders tables script capture h
    (well_formed c.replies_tell_how_many_left.ensures workers feeders script
    (length capture.frames) h run.notes (λ port. []) is fit run.nothing_lost es grouped run.legal
    run.made
    (c.each_log_is_what_is_told.ensures workers feeders script (length capture.frames) h run.notes
    (λ port. []) is.ports_differ run.made)) run
