use Rattle.std.proofs.Common.{◌≡◌, length}
use Rattle.std.specs.Vec.Iter.{into_iter_items, into_iter_len}
use Rattle.nfq_live.proofs.FeederParts.{IsJoining}
use Rattle.nfq_live.proofs.feeders.join_all.Given as goal

abbrev pub invariant-loop-helper : goal.invariant-loop-helper
invariant-loop-helper l = record {
  long : into_iter_len l.helper-iterator ≡ length (into_iter_items l.helper-iterator);
  joining : IsJoining l.plane l.initial.pass l.fn.helpers.items l.pass
      (into_iter_items l.helper-iterator) l.well;
}
