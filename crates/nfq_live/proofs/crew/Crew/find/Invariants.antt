use Rattle.std.proofs.Common.{◌≢◌, ◌<◌, ℕ}
use Rattle.std.specs.Prelude.{slice_index_or}
use Rattle.plane.specs.Passes.{PortView}
use Rattle.nfq_live.proofs.crew.Crew.find.Given as goal

abbrev pub invariant-loop-at : goal.invariant-loop-at
invariant-loop-at l = record {
  none : (i : ℕ) (d : PortView) → i < l.at →
      (slice_index_or l.self.ports.items i d).port ≢ l.port;
}
