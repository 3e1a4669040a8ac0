use Rattle.total_order.specs.Examples.{crossing_requests}
use Rattle.total_order.proofs.Examples.{requests_cross}
use Rattle.total_order.proofs.TimedExamples.{once, at_once, twice, too_soon, one_missing}
use Rattle.total_order.proofs.TimedExamples.{one_misplaced}
use Rattle.total_order.proofs.by_hand.timed_lists_by_hand.Goals as goal

pub returns-clause-answer : goal.returns-clause-answer
returns-clause-answer c time late = once c.a_queue_has_a_place.ensures time late

pub returns-clause-at_once : goal.returns-clause-at_once
returns-clause-at_once c = at_once

pub returns-clause-sent_on : goal.returns-clause-sent_on
returns-clause-sent_on c = twice

pub returns-clause-too_soon : goal.returns-clause-too_soon
returns-clause-too_soon c = too_soon

pub returns-clause-missing : goal.returns-clause-missing
returns-clause-missing c = one_missing

pub returns-clause-misplaced : goal.returns-clause-misplaced
returns-clause-misplaced c = one_misplaced

pub returns-clause-requests : goal.returns-clause-requests
returns-clause-requests c places lists timed = requests_cross
    (c.timed_lists_have_one_order.ensures places lists crossing_requests timed)
