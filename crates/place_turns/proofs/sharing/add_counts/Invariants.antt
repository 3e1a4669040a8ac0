use Rattle.std.specs.BTreeMap.{btree_map_len}
use Rattle.place_turns.proofs.CountSums.{AddedSoFar}
use Rattle.place_turns.proofs.sharing.add_counts.Given as goal

abbrev pub invariant-loop-port : goal.invariant-loop-port
invariant-loop-port l = AddedSoFar l.initial.into l.fn.from l.into l.from

abbrev pub decreases-loop-port : goal.decreases-loop-port
decreases-loop-port l = btree_map_len l.from
