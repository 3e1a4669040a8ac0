use Rattle.std.proofs.Common.{◌≡◌, length}
use Rattle.std.specs.Prelude.{All}
use Rattle.packet_moves.specs.World.{opened}
use Rattle.solo_plane.specs.PortView.{port_of}
use Rattle.solo_plane.proofs.opening.open_states.Given as goal

abbrev pub invariant-loop-port : goal.invariant-loop-port
invariant-loop-port l = record {
  as_many : length l.states.items ≡ l._port-index;
  opened : All (λ s. port_of s ≡ opened) l.states.items;
}
