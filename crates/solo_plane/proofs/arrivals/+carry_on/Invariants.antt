use Rattle.std.specs.Prelude.{◌-◌}
use Rattle.packet_entry.specs.Numbers.{last_visit}
use Rattle.solo_plane.proofs.arrivals.+carry_on.Given as goal

abbrev pub decreases-carry_on : goal.decreases-carry_on
decreases-carry_on l = last_visit - l.packet.visit
