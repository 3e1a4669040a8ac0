use Rattle.feeder_audit.proofs.HistoryWalk.{followed}
use Rattle.feeder_audit.proofs.fed.Fed.follow.Goals as goal

pub returns : goal.returns
returns c = λ queue same is.
    followed c.args.downs.now queue c.args.self.now c.close.new.self c.go_over.new.self
    c.args.entry.now (c.close.ensures.closes queue same) c.in_ok-go_over.ensures is
