use Rattle.histories.specs.QueueHistories.{own_last, others_last}
use Rattle.histories.proofs.laws.an_entry_is_of_its_queue_alone.Goals as goal

pub returns-clause-own : goal.returns-clause-own
returns-clause-own c = own_last

pub returns-clause-others : goal.returns-clause-others
returns-clause-others c = others_last
