use Rattle.run_parts.proofs.HeardExamples.{unheard, roomless, wrong_errno, unasked}
use Rattle.run_parts.proofs.HeardExamples.{is_heard, not_heard, other_room, told_errno}
use Rattle.run_parts.proofs.by_hand.hearing_by_hand.Goals as goal

pub returns-clause-unheard : goal.returns-clause-unheard
returns-clause-unheard c = unheard

pub returns-clause-roomless : goal.returns-clause-roomless
returns-clause-roomless c = roomless

pub returns-clause-errno : goal.returns-clause-errno
returns-clause-errno c = wrong_errno

pub returns-clause-unasked : goal.returns-clause-unasked
returns-clause-unasked c = unasked

pub returns-clause-another : goal.returns-clause-another
returns-clause-another c = not_heard

pub returns-clause-room : goal.returns-clause-room
returns-clause-room c = other_room

pub returns-clause-told : goal.returns-clause-told
returns-clause-told c = told_errno

pub returns-clause-heard : goal.returns-clause-heard
returns-clause-heard c = is_heard
