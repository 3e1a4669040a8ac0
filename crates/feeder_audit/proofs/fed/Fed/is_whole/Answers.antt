use Rattle.feeder_audit.proofs.HistoryWalk.{whole_is}
use Rattle.feeder_audit.proofs.fed.Fed.is_whole.Goals as goal

pub returns : goal.returns
returns c = λ queue same.
    whole_is c.args.downs.now queue c.args.self c.close.new.self (c.close.ensures.closes queue same)
    c.has.result c.has.ensures
