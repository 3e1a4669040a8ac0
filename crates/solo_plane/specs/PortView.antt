-- The ports as the code holds them, beside what they stand for.
use Rattle.std.specs.Prelude.{◌≡◌, ℕ, [], Option, None, Bool, option_map, IsSomeAnd, false}
use Rattle.packet_entry.specs.ListWithRoom.{ListWithRoom}
use Rattle.histories.specs.declared.log.Did.{Did}
use Rattle.place_history.specs.PlaceState.{PlaceState}
use Rattle.histories.specs.Moves.{moves}
use Rattle.histories.specs.Journeys.{IsSoundBut}
use Rattle.solo_plane.specs.declared.port.PortState.{PortState}
use Rattle.solo_plane.specs.declared.held.Ports.{Ports}
use Rattle.packet_moves.specs.declared.setting.Setting.{Setting}
use Rattle.solo_plane.specs.declared.held.Held.{Held}
use Rattle.solo_plane.specs.PortPlaces.{place_in, stands_at}
use Rattle.packet_moves.specs.World.{World, Port}

-- how a port stands
abbrev pub state_in : Ports → ℕ → Option PortState
state_in ports p = stands_at ports.states.items (place_in ports.numbers.all.items p)

-- the port that a state stands for
abbrev pub port_of : PortState → Port
port_of p = record {
  letters = p.mailbox.items;
  dids = p.dids.items;
  is_closed = p.is_closed;
}

abbrev pub ports_of : Ports → ℕ → Option Port
ports_of ports p = option_map port_of (state_in ports p)

-- what a port did, with the room for more, and whether it is closed
pub record Log : Type 0 where
  pub dids : ListWithRoom Did
  pub is_closed : Bool

abbrev pub log_in : PortState → Log
log_in p = record { dids = p.dids; is_closed = p.is_closed }

abbrev pub logs_of : Ports → ℕ → Option Log
logs_of ports p = option_map log_in (state_in ports p)

-- the port is there, and this holds of it
abbrev pub OnPort : Ports → ℕ → (PortState → Type 0) → Type 0
OnPort ports port P = IsSomeAnd (state_in ports port) P

-- what is held stands for
abbrev pub world_of : Held → World
world_of h = record {
  entries = h.place.entries;
  ports = ports_of h.ports;
  fed = h.fed.items;
  lost = h.lost.items;
}

-- the one place, of all queues, between two steps
pub record IsReady (place : PlaceState) : Type 0 where
  pub only : place.places ≡ 1
  pub first : place.number ≡ 0
  pub no_offer : place.offer ≡ None
  pub standing : place.is_left ≡ false

-- the histories are sound for the packets that were fed and those that were lost
pub record HasSound (s : Setting) (h : Held) : Type 0 where
  pub sound : IsSoundBut s.tables s.key [] h.fed.items (moves h.place.entries) h.lost.items
