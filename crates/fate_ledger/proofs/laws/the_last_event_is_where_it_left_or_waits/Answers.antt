use Rattle.fate_ledger.proofs.LastArrivals.{waits, left_there}
use Rattle.fate_ledger.proofs.laws.the_last_event_is_where_it_left_or_waits.Goals as goal

pub returns-clause-left : goal.returns-clause-left
returns-clause-left c = left_there c.replies_tell_how_many_left.ensures

pub returns-clause-waits : goal.returns-clause-waits
returns-clause-waits c =
    waits c.replies_tell_how_many_left.ensures c.each_stay_ends_once.ensures
