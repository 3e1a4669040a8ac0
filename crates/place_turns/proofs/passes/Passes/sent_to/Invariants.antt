use Rattle.std.proofs.Common.{◌≡◌, ◌≤◌, ◌*◌, take}
use Rattle.std.specs.Prelude.{sum_by}
use Rattle.place_turns.proofs.NoticeCounts.{count_at}
use Rattle.place_turns.proofs.passes.Passes.sent_to.Given as goal

abbrev pub invariant-loop-counts : goal.invariant-loop-counts
invariant-loop-counts l = record {
  few : l.sent ≤ l.counts-index * 18446744073709551615;
  sum : l.sent ≡ sum_by (count_at l.port) (take l.counts-index l.counts-items);
}
