-- What is left of passes, while they are joined into one row.
use Rattle.std.specs.Prelude.{◌≡◌, ℕ, List, [], ◌∷◌, ◌++◌, map, flat_map, slice_get, Some}
use Rattle.std.specs.Prelude.{if◌then◌else◌, ◌==◌, length}
use Rattle.atomic_table.specs.Seated.{TableId}
use Rattle.mailbox.specs.Views.{ReceiverView}
use Rattle.histories.specs.declared.entry.Entry.{Entry}
use Rattle.histories.specs.declared.histories.Lost.{Lost}
use Rattle.histories.specs.declared.log.Did.{Did}
use Rattle.histories.specs.declared.log.PortLog.{PortLog}
use Rattle.turn_lock.specs.declared.storied.Storied.{Ghosts}
use Rattle.turn_lock.specs.declared.pass.Pass.{Pass}
use Rattle.turn_lock.specs.Parts.{Whole}
use Rattle.turn_lock.specs.Passes.{view_of}
use Rattle.locked_place.specs.Views.{LockedView, PlaceLabel, label_of}
use Rattle.place_rows.specs.Hearing as row
use Rattle.place_rows.specs.Joining.{AllJoined}
use Rattle.place_rows.specs.Rows.{AreKnown, ArePasses, TimedKnown, known_of, label_at}
use Rattle.place_turns.specs.Timely.{AreTimely, Holder, port_with, feeder}
use Rattle.plane.specs.declared.finish.Remains.{Remains}
use Rattle.plane.specs.declared.plane.Plane.{Plane}
use Rattle.plane.specs.Closings.{receiver_of}
use Rattle.plane.specs.Opening.{known_in}
use Rattle.plane.specs.Passes.{FeederView, PortView}
use Rattle.plane.specs.Planes.{outlets_of}

abbrev pub log_left : PortView → PortLog
log_left p = record { port = p.port; dids = p.dids }

abbrev pub lost_in : PortView → List Lost
lost_in p = p.trail.lost

-- what a port did, by the first of these logs that is its own
abbrev pub dids_in : List PortLog → ℕ → List Did
dids_in [] port = []
dids_in (l ∷ logs) port = if l.port == port then l.dids else dids_in logs port

abbrev pub log_in : List PortLog → ℕ → PortLog
log_in logs port = record { port = port; dids = dids_in logs port }

-- how often a port is among these
abbrev pub times_in : ℕ → List PortView → ℕ
times_in port ps = row.times_in port (map receiver_of ps)

-- a pass of these locks
pub record IsRowOf (locks : List TableId) (named : ℕ → PlaceLabel) (p : PortView) : Type 0 where
  pub locks_are : p.locks ≡ locks
  pub as_many : length p.trail.known ≡ length p.locks
  pub known_so : AreKnown label_of named p.trail.known

-- what is left of one port was added to the rest
pub record IsAdded (port : ℕ) (receiver : ReceiverView) (dids : List Did) (lost : List Lost)
    (old new : Remains) : Type 0 where
  pub receivers : new.receivers.items
      ≡ old.receivers.items ++ record { port = port; receiver = receiver } ∷ []
  pub logs : new.logs.items ≡ old.logs.items ++ record { port = port; dids = dids } ∷ []
  pub lost_too : new.lost.items ≡ old.lost.items ++ lost

-- and of several
pub record AreAdded (ports : List PortView) (old new : Remains) : Type 0 where
  pub receivers : new.receivers.items ≡ old.receivers.items ++ map receiver_of ports
  pub logs : new.logs.items ≡ old.logs.items ++ map log_left ports
  pub lost_too : new.lost.items ≡ old.lost.items ++ flat_map lost_in ports

-- ---- passes with times

abbrev pub holder_of : PortView → Holder
holder_of p = port_with p.port p.dids p.receiver.received

-- the pass of a port, with what it knows of each place with times, and what it keeps of them
pub record TimelyPass : Type 0 where
  pub port : PortView
  pub row : List TimedKnown
  pub same : known_of row ≡ port.trail.known
  pub clock : ℕ
  pub timely : AreTimely clock row (holder_of port)

abbrev pub port_in : TimelyPass → PortView
port_in t = t.port

abbrev pub row_in : TimelyPass → List TimedKnown
row_in t = t.row

-- the passes of these ports, with times, were joined into a row
pub record JoinTimely (ports : List PortView) (before after : List TimedKnown) : Type 0 where
  pub passes : List TimelyPass
  pub are : map port_in passes ≡ ports
  pub joined : (rows : List (List TimedKnown)) (first : List TimedKnown) →
      AllJoined rows first before → AllJoined (rows ++ map row_in passes) first after

-- ---- all passes of a plane

-- those of who feeds and of these ports were joined into a row, which has the whole of each lock
pub record AreAllIn {g : Ghosts LockedView (Entry × ℕ)} (plane : Plane) (p : FeederView)
    (ports : List PortView) (row : List (Pass LockedView (Entry × ℕ) g)) : Type 0 where
  pub passes : ArePasses label_of (label_at (outlets_of plane)) plane.shared.locks.items row
  pub joined : AllJoined (map known_in ports) p.trail.known (known_of (map view_of row))
  pub whole : (k : ℕ) (v : TimedKnown) → slice_get (map view_of row) k ≡ Some v → v.part ≡ Whole

-- and so were they with times
pub record AreTimelyIn (p : FeederView) (ports : List PortView) (row : List TimedKnown) : Type 0
  where
    pub first : List TimedKnown
    pub same : known_of first ≡ p.trail.known
    pub clock : ℕ
    pub timely : AreTimely clock first feeder
    pub passes : List TimelyPass
    pub are : map port_in passes ≡ ports
    pub joined : AllJoined (map row_in passes) first row

-- what is left of them
pub record AreLeft (p : FeederView) (ports : List PortView) (r : Remains) : Type 0 where
  pub receivers : r.receivers.items ≡ map receiver_of ports
  pub logs : r.logs.items ≡ map log_left ports
  pub lost_too : r.lost.items ≡ p.trail.lost ++ flat_map lost_in ports
