use Rattle.run_parts.proofs.DueRanks.{all_ordered_later, entry_ordered, unasked_ordered}
use Rattle.run_parts.proofs.DueRanks.{closings_ordered, downs_ordered, is_ordered}
use Rattle.run_parts.proofs.underway.ordered_histories_go_on.Goals as goal

pub returns-clause-later : goal.returns-clause-later
returns-clause-later c = all_ordered_later

pub returns-clause-entry : goal.returns-clause-entry
returns-clause-entry c = entry_ordered

pub returns-clause-unasked : goal.returns-clause-unasked
returns-clause-unasked c = unasked_ordered

pub returns-clause-closing : goal.returns-clause-closing
returns-clause-closing c = λ ports.
    closings_ordered ports c.a_closed_port_has_no_queues.ensures.entries

pub returns-clause-devices : goal.returns-clause-devices
returns-clause-devices c = λ ports.
    downs_ordered ports c.a_device_that_packets_pass_leaves_nothing_waiting.ensures.entries

pub returns-clause-ordered : goal.returns-clause-ordered
returns-clause-ordered c = is_ordered
