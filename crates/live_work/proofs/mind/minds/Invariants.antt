use Rattle.std.proofs.Common.{◌≡◌, length}
use Rattle.live_work.proofs.FirstMinds.{AreFresh}
use Rattle.live_work.proofs.mind.minds.Given as goal

abbrev pub invariant-loop-place : goal.invariant-loop-place
invariant-loop-place l = record {
  long : length l.minds.items ≡ l.place;
  fresh : AreFresh 0 l.minds.items;
}
