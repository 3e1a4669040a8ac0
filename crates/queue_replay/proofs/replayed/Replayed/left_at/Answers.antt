use Rattle.queue_replay.proofs.Parts.{left_there}
use Rattle.queue_replay.proofs.replayed.Replayed.left_at.Goals as goal

pub returns : goal.returns
returns c = λ es e is.
    left_there c.args.self.now.departed es c.args.place e c.at.result.now c.at.ensures is.departed
