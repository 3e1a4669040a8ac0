-- Places that open, and the mailboxes of ports, whose senders are dealt to them.
use Rattle.std.specs.Prelude.{◌≡◌, ◌≢◌, ℕ, List, [], length, map, slice_get, Some}
use Rattle.std.specs.Prelude.{None}
use Rattle.std.specs.Prelude.{option_map, IfSome, IsSome}
use Rattle.std.specs.BTreeMap.{BTreeMap, get}
use Rattle.std.specs.Ordering.{nat_cmp}
use Rattle.mailbox.specs.Roles.{In}
use Rattle.mailbox.specs.Views.{MailboxView, SenderView, opening_receiver}
use Rattle.turn_lock.specs.declared.view.View.{View}
use Rattle.turn_lock.specs.Parts.{Whole}
use Rattle.place_rows.specs.declared.ending.PortReceiver.{PortReceiver}
use Rattle.place_rows.specs.declared.opening.Dealt.{Dealt}
use Rattle.place_rows.specs.Lists.{Every}
use Rattle.place_rows.specs.Rows.{sender_made}

-- ---- senders

-- a place was given this sender of a port, beside those that it had
pub record IsGiven (port : ℕ) (sender : SenderView) (old new : BTreeMap ℕ SenderView) : Type 0 where
  pub own : get nat_cmp new port ≡ Some sender
  pub others : (p : ℕ) → p ≢ port → get nat_cmp new p ≡ get nat_cmp old p

-- a place that has no sender
abbrev pub HasNone : BTreeMap ℕ SenderView → Type 0
HasNone senders = (port : ℕ) → get nat_cmp senders port ≡ None

-- each place was given one, by its number
pub record AreDealt (places port : ℕ) (mailbox : MailboxView)
    (olds news : List (BTreeMap ℕ SenderView)) : Type 0 where
  pub as_many : length news ≡ length olds
  pub each : (k : ℕ) (old new : BTreeMap ℕ SenderView) → slice_get olds k ≡ Some old →
      slice_get news k ≡ Some new → IsGiven port (sender_made places k mailbox) old new

-- the senders of each of so many places are those that it is to have: one to each mailbox
pub record AreSendersOf (places : ℕ) (mailboxes : BTreeMap ℕ MailboxView)
    (senders : List (BTreeMap ℕ SenderView)) : Type 0 where
  pub as_many : length senders ≡ places
  pub each : (k : ℕ) (own : BTreeMap ℕ SenderView) → slice_get senders k ≡ Some own →
      (port : ℕ) → get nat_cmp own port
      ≡ option_map (sender_made places k) (get nat_cmp mailboxes port)

-- ---- ports

abbrev pub port_of : PortReceiver → ℕ
port_of p = p.port

-- the receiver of a port's mailbox, which holds so many letters, as it is made
pub record IsOpened (mail : ℕ) (mailboxes : BTreeMap ℕ MailboxView) (p : PortReceiver) : Type 0
  where
    pub mailbox : get nat_cmp mailboxes p.port ≡ Some p.receiver.mailbox
    pub capacity : p.receiver.mailbox.capacity ≡ mail
    pub nothing_yet : p.receiver ≡ opening_receiver p.receiver.mailbox

-- the mailbox holds so many letters
abbrev pub Holds : ℕ → MailboxView → Type 0
Holds mail m = m.capacity ≡ mail

-- these ports, and no others, have a mailbox each, with a sender for each of so many places
pub record IsDealt (places mail : ℕ) (ports : List ℕ) (d : Dealt) : Type 0 where
  pub senders : AreSendersOf places d.mailboxes d.senders.items
  pub ports_are : map port_of d.receivers.items ≡ ports
  pub opened : Every (IsOpened mail d.mailboxes) d.receivers.items
  pub holds : (port : ℕ) → IfSome (get nat_cmp d.mailboxes port) (Holds mail)
  pub no_others : (port : ℕ) → IsSome (get nat_cmp d.mailboxes port) → In port ports

-- ---- rows

module _ {E S : Type 0} where
  -- the first pass of a place, which has seen nothing and has the whole of its lock
  pub record IsFirst (v : View E S) : Type 0 where
    pub none_seen : v.seen ≡ []
    pub none_own : v.own ≡ []
    pub whole : v.part ≡ Whole

  abbrev pub AreFirst : List (View E S) → Type 0
  AreFirst known = Every IsFirst known
