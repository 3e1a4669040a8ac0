use Rattle.run_parts.proofs.FeederLines.{nothing_fed, all_later, entry_first_fed, entry_fed}
use Rattle.run_parts.proofs.FeederLines.{closings_fed, downs_fed, is_fed}
use Rattle.run_parts.proofs.underway.fed_histories_go_on.Goals as goal

pub returns-clause-none : goal.returns-clause-none
returns-clause-none c = nothing_fed

pub returns-clause-later : goal.returns-clause-later
returns-clause-later c = all_later

pub returns-clause-first : goal.returns-clause-first
returns-clause-first c = entry_first_fed

pub returns-clause-entry : goal.returns-clause-entry
returns-clause-entry c = entry_fed

pub returns-clause-closing : goal.returns-clause-closing
returns-clause-closing c = closings_fed c.a_closed_port_has_no_queues.ensures.entries

pub returns-clause-line : goal.returns-clause-line
returns-clause-line c =
    downs_fed c.a_device_that_packets_pass_leaves_nothing_waiting.ensures.entries

pub returns-clause-fed : goal.returns-clause-fed
returns-clause-fed c = is_fed
