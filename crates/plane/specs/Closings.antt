-- A plane that closed.
use Rattle.std.specs.Prelude.{◌≡◌, ℕ, List, [], ◌∷◌, map, ◌==◌}
use Rattle.std.specs.Prelude.{if◌then◌else◌}
use Rattle.histories.specs.declared.histories.Histories.{Histories}
use Rattle.histories.specs.declared.log.Did.{Did}
use Rattle.histories.specs.declared.log.PortLog.{PortLog}
use Rattle.place_rows.specs.declared.ending.PortReceiver.{PortReceiver}
use Rattle.place_rows.specs.Ended.{AreAllEntries}
use Rattle.place_rows.specs.Ending.{Holder, all_lost}
use Rattle.plane.specs.declared.plane.Plane.{Plane}
use Rattle.plane.specs.Passes.{FeederView, PortView}
use Rattle.plane.specs.Planes.{setting_of, order_of, places_of}

-- ---- who had passes

abbrev pub feeder_holds : FeederView → Holder
feeder_holds p = record { known = p.trail.known; fed = p.fed; lost = p.trail.lost }

abbrev pub port_holds : PortView → Holder
port_holds p = record { known = p.trail.known; fed = []; lost = p.trail.lost }

abbrev pub all_holders : FeederView → List PortView → List Holder
all_holders feeder ports = feeder_holds feeder ∷ map port_holds ports

abbrev pub receiver_of : PortView → PortReceiver
receiver_of p = record { port = p.port; receiver = p.receiver }

-- ---- logs

-- the log of a port among these, the first with its number
abbrev pub dids_among : List PortView → ℕ → List Did
dids_among [] port = []
dids_among (p ∷ ps) port =
    if p.port == port then p.dids else dids_among ps port

abbrev pub log_among : List PortView → ℕ → PortLog
log_among ports port = record { port = port; dids = dids_among ports port }

-- A plane gave these histories as it closed, of these passes and of the ports that are open or
-- closed: their entries are all entries of its places, each one pass's own, legal and sound for all
-- that was fed and lost; the ports heard of them; the packets lost are those of all passes; and the
-- logs stand in the order of the ports.
pub record IsClosed (plane : Plane) (feeder : FeederView) (ports : List PortView) (h : Histories)
    : Type 0 where
  pub entries : AreAllEntries (setting_of plane) (places_of plane) (all_holders feeder ports)
      (map receiver_of ports) h.entries
  pub lost : h.lost ≡ all_lost (all_holders feeder ports)
  pub logs : h.logs ≡ map (log_among ports) (order_of plane)
