use Rattle.queue_core.proofs.ConfigLines.{allowed_sets_up}
use Rattle.queue_core.proofs.queue.Queue.configure.Goals as goal

pub returns-clause-step : goal.returns-clause-step
returns-clause-step c queue call =
    rw c.configure.ensures.settings (rw (← c.self.view_is)
    (allowed_sets_up _ c.args.params c.args.maxlen c.args.flags c.args.mask c.requires.allowed))
