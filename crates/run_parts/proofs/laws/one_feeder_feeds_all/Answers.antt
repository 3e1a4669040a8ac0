use Rattle.run_parts.proofs.Feeders.{one_feeder, by_one_feeder}
use Rattle.run_parts.proofs.laws.one_feeder_feeds_all.Goals as goal

pub returns-clause-fed : goal.returns-clause-fed
returns-clause-fed c = one_feeder

pub returns-clause-all : goal.returns-clause-all
returns-clause-all c = by_one_feeder
