use Rattle.std.proofs.Common.{[]}
use Rattle.live_runs.proofs.LockTurns.{seen_of_others, turn_of_lock}
use Rattle.live_runs.proofs.locks.a_turn_of_a_lock_is_one_of_its_pass.Goals as goal

pub returns : goal.returns
returns c = record {
  turn = turn_of_lock;
  met = λ own seen others placed. seen_of_others own seen others [] placed;
}
