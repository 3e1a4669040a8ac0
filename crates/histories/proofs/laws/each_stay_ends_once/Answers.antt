use Rattle.std.proofs.Common.{None, arith}
use Rattle.histories.proofs.StayCounts.{stays}
use Rattle.histories.proofs.laws.each_stay_ends_once.Goals as goal

pub returns : goal.returns
returns c =
    λ es test. omega (arith, stays c.each_packet_stays_or_leaves.ensures None es test)
