use Rattle.std.proofs.Common.{◌≡◌}
use Rattle.live_work.proofs.feeding.waiting.Given as goal

abbrev pub invariant-loop-place : goal.invariant-loop-place
invariant-loop-place l = record {
  looks : l.gauge.board ≡ l.initial.gauge.board;
}
