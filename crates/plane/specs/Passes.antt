-- What contracts see of the passes of a plane: of who feeds, and of its ports.
use Rattle.std.specs.Prelude.{◌≡◌, ◌<◌, ℕ, List, [], ◌∷◌, ◌++◌, filter, map}
use Rattle.std.specs.Prelude.{Option, Some, None}
use Rattle.std.specs.BTreeMap.{get}
use Rattle.std.specs.Ordering.{nat_cmp}
use Rattle.atomic_table.specs.Seated.{TableId}
use Rattle.packet_entry.specs.ListWithRoom.{ListWithRoom}
use Rattle.packet_entry.specs.declared.packet.Card.{Card}
use Rattle.packet_entry.specs.declared.letter.Letter.{Letter}
use Rattle.mailbox.specs.declared.view.Post.{Post}
use Rattle.mailbox.specs.Views.{ReceiverView, receiver_with, receiver_empty}
use Rattle.histories.specs.declared.log.Did.{Did}
use Rattle.histories.specs.declared.log.Did.TheVariants.{Received, Closed}
use Rattle.histories.specs.Logs.{is_received}
use Rattle.place_rows.specs.Rows.{TurnedUpTo}
use Rattle.place_rows.specs.Shares.{IsBalanced}
use Rattle.plane.specs.declared.plane.Plane.{Plane}
use Rattle.plane.specs.Planes.{setting_of, outlets_of}
use Rattle.place_turns.specs.Passes.{AreOf, Shuts}
use Rattle.place_turns.specs.Trails.{Trail}

-- ---- views

-- the pass of who feeds
pub record FeederView : Type 0 where
  pub locks : List TableId
  pub trail : Trail
  -- the packets that it fed
  pub fed : List Card

-- the pass of a port, or of one that closed
pub record PortView : Type 0 where
  pub locks : List TableId
  pub trail : Trail
  pub port : ℕ
  -- the letters that it received, among others
  pub receiver : ReceiverView
  -- what the port did
  pub dids : List Did

-- ---- what a port keeps

abbrev pub did_receive : Letter → Did
did_receive l = Received l.queue l.number l.visit

abbrev pub did_take : Post → Did
did_take p = did_receive p.letter

-- the log has one Received for each letter that was received, in their order
pub record HasLogged (dids : List Did) (receiver : ReceiverView) : Type 0 where
  pub heard : filter is_received dids ≡ map did_take receiver.received

-- and its closing finds room in it
pub record IsPort (dids : ListWithRoom Did) (receiver : ReceiverView) : Type 0 where
  pub logged : HasLogged dids.items receiver
  pub closable : 0 < dids.room

-- ---- passes of a plane

-- The pass feeds this plane, and it is balanced: what it has seen is legal, and its own entries are
-- sound for the packets that it fed and those that its calls lost.
pub record IsFeederOf (plane : Plane) (p : FeederView) : Type 0 where
  pub of : AreOf plane.shared p.locks p.trail.known
  pub balanced : IsBalanced (setting_of plane) p.fed p.trail.known p.trail.lost

-- The pass is of a port of this plane, or of one that closed, and it is balanced.
pub record IsPortOf (plane : Plane) (p : PortView) : Type 0 where
  pub of : AreOf plane.shared p.locks p.trail.known
  pub balanced : IsBalanced (setting_of plane) [] p.trail.known p.trail.lost
  pub mailbox : get nat_cmp (outlets_of plane).mailboxes p.port ≡ Some p.receiver.mailbox
  -- no sender was joined into its receiver yet
  pub alone : (p.receiver.joined ≡ []) × (p.receiver.full ≡ 0)
  pub unmailed : p.receiver.mails ≡ []

-- ---- calls

-- a letter was received, and is logged; or the mailbox was found empty
abbrev pub Receives : PortView → PortView → Option Letter → Type 0
Receives old new None = new ≡ record old { receiver = receiver_empty old.receiver }
Receives old new (Some l) =
    (from time : ℕ) × (new ≡ record old {
      receiver = receiver_with old.receiver from (record { letter = l; time = time });
      dids = old.dids ++ did_receive l ∷ [];
    })

-- a port closed at each of so many places, in a turn of its own, and its log says so
pub record Closes (places : ℕ) (old new : PortView) : Type 0 where
  pub turned : TurnedUpTo places old.trail.known new.trail.known (Shuts old.port)
  pub others : new ≡ record old {
    trail = record { known = new.trail.known; lost = old.trail.lost };
    dids = old.dids ++ Closed ∷ [];
  }
