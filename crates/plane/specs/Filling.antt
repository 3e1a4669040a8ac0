-- Passes of ports that are made ready while no place has a lock yet, and are filled then.
use Rattle.std.specs.Prelude.{◌≡◌, ◌<◌, ◌≤◌, ◌↔◌, ℕ, List, [], length, IsSome}
use Rattle.std.specs.BTreeMap.{BTreeMap, get}
use Rattle.std.specs.Ordering.{nat_cmp}
use Rattle.std.specs.Vec.{vec_capacity}
use Rattle.mailbox.specs.Roles.{In}
use Rattle.mailbox.specs.Views.{opening_receiver}
use Rattle.locked_place.specs.declared.outlets.Outlets.{Outlets}
use Rattle.place_rows.specs.declared.ending.PortReceiver.{PortReceiver}
use Rattle.place_rows.specs.Lists.{Every}
use Rattle.plane.specs.declared.opened.Unfilled.{Unfilled}
use Rattle.plane.specs.Closings.{receiver_of}
use Rattle.place_turns.specs.Counts.{count_of}
use Rattle.plane.specs.Opening.{IsUnused}
use Rattle.plane.specs.Passes.{PortView}

-- the counts say 0 of every port, and there is one for each of these, and no other
pub record AreZero (ports : List ℕ) (counts : BTreeMap ℕ ℕ) : Type 0 where
  pub none : (port : ℕ) → count_of (get nat_cmp counts port) ≡ 0
  pub each : (port : ℕ) → In port ports → IsSome (get nat_cmp counts port)
  pub only : (port : ℕ) → IsSome (get nat_cmp counts port) → In port ports

abbrev pub receiver_in : Unfilled → PortReceiver
receiver_in u = record { port = u.port; receiver = u.receiver }

-- the receiver of a mailbox, as it is made
abbrev pub IsUnheard : PortReceiver → Type 0
IsUnheard r = r.receiver ≡ opening_receiver r.receiver.mailbox

-- all is there for the pass of a port, among these ports, but a row of so many places, for which
-- there is room
pub record IsReady (places : ℕ) (ports : List ℕ) (u : Unfilled) : Type 0 where
  pub empty : u.row.items ≡ []
  pub room : places ≤ vec_capacity u.row
  pub many : length u.sent.items ≡ places
  pub zero : Every (AreZero ports) u.sent.items
  pub unheard : u.receiver ≡ opening_receiver u.receiver.mailbox
  pub none_did : u.log.dids.items ≡ []
  pub closable : 0 < u.log.dids.room

-- these ports, and no others, have a mailbox
abbrev pub AreFor : Outlets → List ℕ → Type 0
AreFor outlets ports =
    (port : ℕ) → IsSome (get nat_cmp outlets.mailboxes port) ↔ In port ports

-- a pass whose port did nothing, and which lost nothing
pub record HasDoneNothing (p : PortView) : Type 0 where
  pub lost : p.trail.lost ≡ []
  pub dids : p.dids ≡ []
  pub receiver : p.receiver ≡ opening_receiver p.receiver.mailbox

-- a pass that has seen nothing and appended nothing
abbrev pub HasUnused : PortView → Type 0
HasUnused p = Every IsUnused p.trail.known

-- what was made ready became this pass
pub record IsFilled (u : Unfilled) (p : PortView) : Type 0 where
  pub same : receiver_of p ≡ receiver_in u
  pub nothing : HasDoneNothing p
