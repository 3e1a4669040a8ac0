use Rattle.std.specs.Prelude.{◌↔◌}
use Rattle.log_audit.specs.Stays.{ArePackets}
use Rattle.log_audit.proofs.notices.are_packets.Given as goal

abbrev pub invariant-loop-entry : goal.invariant-loop-entry
invariant-loop-entry l = ArePackets l.entries ↔ ArePackets l.entry-iterator
