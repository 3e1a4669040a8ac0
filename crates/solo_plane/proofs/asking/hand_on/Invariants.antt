use Rattle.std.proofs.Common.{◌≡◌, length, ◌≤◌}
use Rattle.packet_moves.specs.Moving.{CarriesAll}
use Rattle.packet_moves.specs.World.{World}
use Rattle.solo_plane.specs.PortView.{world_of, logs_of, IsReady}
use Rattle.packet_moves.specs.HandedOn.{AreInTime}
use Rattle.solo_plane.proofs.asking.hand_on.Given as goal

abbrev pub invariant-loop-packet : goal.invariant-loop-packet
invariant-loop-packet l = record {
  ready : IsReady l.held.place;
  in_time : AreInTime l.handed.items;
  room : length l.handed.items ≤ l.held.lost.room;
  logs : logs_of l.held.ports ≡ logs_of l.initial.held.ports;
  on : (after : World) →
      CarriesAll l.setting l.handed.items (world_of l.held) after →
      CarriesAll l.setting l.initial.handed.items (world_of l.initial.held) after;
}

abbrev pub decreases-loop-packet : goal.decreases-loop-packet
decreases-loop-packet l = length l.handed.items
