use Rattle.std.proofs.Common.{◌<◌, ℕ}
use Rattle.nfq_live.proofs.NoticeCounts.{IsCounted}
use Rattle.nfq_live.proofs.crew.Crew.has_received_all.Given as goal

abbrev pub invariant-loop-at : goal.invariant-loop-at
invariant-loop-at l = record {
  so_far : (i : ℕ) → i < l.at → IsCounted l.self i;
}
