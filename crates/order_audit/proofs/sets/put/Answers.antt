use Rattle.order_audit.proofs.Membership.{pair_in}
use Rattle.order_audit.proofs.sets.put.Goals as goal

pub returns : goal.returns
returns c =
    pair_in c.args.pairs.now c.insert.new.self (c.args.first, c.args.second)
    c.in_ok-insert.ensures.updates.0
