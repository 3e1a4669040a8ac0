use Rattle.solo_schedule.proofs.HistoryBounds.{packets_small, payloads_short}
use Rattle.solo_schedule.proofs.laws.packets_and_payloads_are_within_bounds.Goals as goal

pub returns-clause-packets : goal.returns-clause-packets
returns-clause-packets c = packets_small c.datagrams_are_short.ensures.words

pub returns-clause-payloads : goal.returns-clause-payloads
returns-clause-payloads c = payloads_short c.datagrams_are_short.ensures.words
