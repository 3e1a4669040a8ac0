use Rattle.std.proofs.Common.{◌∙◌}
use Rattle.std.proofs.lemmas.Result.{IfOk-weaker}
use Rattle.queue_replay.proofs.StepReplies.{entry_tells}
use Rattle.queue_replay.proofs.going.going_on.Goals as goal

pub returns : goal.returns
returns c =
    IfOk-weaker c.told.result _ _
    (λ leavers is one. is ∙ entry_tells c.args.queue.now c.args.entry.now one) c.told.ensures
