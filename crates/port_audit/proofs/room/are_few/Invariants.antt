use Rattle.std.proofs.Common.{◌≡◌, ◌+◌}
use Rattle.port_audit.specs.Hearing.{heard_in}
use Rattle.port_audit.proofs.room.are_few.Given as goal

abbrev pub invariant-loop-did : goal.invariant-loop-did
invariant-loop-did l = heard_in l.did-iterator + l.mail ≡ heard_in l.dids + l.more
