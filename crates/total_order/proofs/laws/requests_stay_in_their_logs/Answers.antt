use Rattle.total_order.proofs.Logs.{asked_on, asked_next}
use Rattle.total_order.proofs.laws.requests_stay_in_their_logs.Goals as goal

pub returns-clause-next : goal.returns-clause-next
returns-clause-next c places lists time call words answer ds h =
    asked_next places lists time call words answer ds h

pub returns-clause-on : goal.returns-clause-on
returns-clause-on c places lists time call at ds more s h =
    asked_on places lists time call at ds more s h
