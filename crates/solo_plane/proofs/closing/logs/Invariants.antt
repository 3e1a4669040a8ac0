use Rattle.std.proofs.Common.{◌≡◌, ℕ, ◌<◌, ◌≤◌, length, map, take, get_or}
use Rattle.solo_plane.specs.PortView.{state_in}
use Rattle.solo_plane.specs.Closing.{log_at}
use Rattle.solo_plane.proofs.closing.logs.Given as goal

abbrev pub invariant-loop-port : goal.invariant-loop-port
invariant-loop-port l = record {
  done : l.logs.items ≡ map (log_at l.initial.ports) (take l.port-index l.order);
  rest : (k : ℕ) → l.port-index ≤ k → k < length l.order →
      state_in l.ports (get_or l.order k 0) ≡ state_in l.initial.ports (get_or l.order k 0);
}
