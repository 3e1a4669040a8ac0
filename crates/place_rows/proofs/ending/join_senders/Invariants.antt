use Rattle.place_rows.proofs.Senders.{SendersJoined}
use Rattle.place_rows.proofs.ending.join_senders.Given as goal

abbrev pub invariant-loop-i : goal.invariant-loop-i
invariant-loop-i l =
    SendersJoined l.i l.fn.senders l.senders l.initial.receivers.items l.receivers.items
