-- What happens to a plane, call by call.
use Rattle.std.specs.Prelude.{◌≡◌, ℕ, suc, List, [], ◌∷◌, ◌++◌, Option, Some, None}
use Rattle.std.specs.Prelude.{if◌then◌else◌, nat_eq, ◌==◌}
use Rattle.std.specs.List.{list_any}
use Rattle.packet_entry.specs.declared.packet.Card.{Card}
use Rattle.hook_chain.specs.Route.{next}
use Rattle.histories.specs.Happenings.{closings, downs}
use Rattle.packet_moves.specs.declared.fed.Fed.{Fed}
use Rattle.packet_moves.specs.declared.setting.Setting.{Setting}
use Rattle.packet_moves.specs.World.{World, Port, opened, at_port, closed}
use Rattle.packet_moves.specs.Moving.{carry, ending}

-- a port is opened
abbrev pub with_opened : ℕ → (ℕ → Option Port) → ℕ → Option Port
with_opened port ports p = if p == port then Some opened else ports p

-- each of these ports did nothing yet
abbrev pub opened_ports : List ℕ → ℕ → Option Port
opened_ports order p = if list_any (nat_eq p) order then Some opened else None

-- nothing has happened
abbrev pub beginning : List ℕ → World
beginning order = record { entries = []; ports = opened_ports order; fed = []; lost = [] }

-- ---- feeding

abbrev pub entered : World → Card → World
entered w card = record w { fed = w.fed ++ card ∷ [] }

-- A packet is fed: it goes through the tables from the first on, and is moved on to its rest or its
-- end. Its first arrival finds memory.
pub record IsFed (s : Setting) (old : World) (card : Card) (new : World) (fed : Fed) : Type 0 where
  pub memory : ℕ
  pub moved : carry (suc memory) s (entered old card) card (next s.tables s.key card 1)
      ≡ ending new fed

-- ---- ports and devices

-- a port closes, and each of its queues ends
abbrev pub with_closed : World → ℕ → World
with_closed w port =
    at_port port closed (record w { entries = w.entries ++ closings port w.entries })

-- a device goes down
abbrev pub without_device : World → ℕ → World
without_device w device = record w { entries = w.entries ++ downs device w.entries }
