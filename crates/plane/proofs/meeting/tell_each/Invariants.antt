use Rattle.plane.proofs.PassMeetings.{MetSo}
use Rattle.plane.proofs.meeting.tell_each.Given as goal

abbrev pub invariant-loop-i : goal.invariant-loop-i
invariant-loop-i g l =
    MetSo l.direction l.plane l.i l.initial.feeder l.feeder l.initial.ports l.ports
