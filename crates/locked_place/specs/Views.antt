-- What contracts see of a place behind a lock, its label, and what it keeps between turns.
use Rattle.std.specs.Prelude.{◌≡◌, ◌++◌, ℕ, List, [], map, Option, None, false, IfSome, IsSome}
use Rattle.std.specs.Prelude.{option_map}
use Rattle.std.specs.BTreeMap.{BTreeMap, get, is_at}
use Rattle.std.specs.Map.{lookup}
use Rattle.std.specs.Ordering.{nat_cmp}
use Rattle.queue_core.specs.State.{Bound}
use Rattle.mailbox.specs.Views.{MailboxView, SenderView}
use Rattle.glance.specs.Views.{BoardView, WriterView}
use Rattle.histories.specs.declared.entry.Entry.{Entry}
use Rattle.histories.specs.States.{state_of}
use Rattle.place_history.specs.PlaceState.{PlaceState}
use Rattle.locked_place.specs.declared.outlets.Outlets.{Outlets}
use Rattle.locked_place.specs.Notices.{HasSent}
use Rattle.locked_place.specs.Shown.{IsShown}
use Rattle.locked_place.specs.Times.{timed, AreTimed, AreMailed}

pub record LockedView : Type 0 where
  -- which of how many places it is
  pub number : ℕ
  pub places : ℕ
  -- each port's sender, by port
  pub senders : List (ℕ × SenderView)
  pub writer : WriterView
  -- all that happened, the time of each entry, and the latest time
  pub entries : List Entry
  pub times : List ℕ
  pub latest : ℕ

abbrev pub locked_of : PlaceState → BTreeMap ℕ SenderView → WriterView → List ℕ → ℕ → LockedView
locked_of place senders writer times latest =
    record {
      number = place.number;
      places = place.places;
      senders = senders.entries;
      writer = writer;
      entries = place.entries;
      times = times;
      latest = latest;
    }

-- the entries with their times
abbrev pub timed_entries : LockedView → List (Entry × ℕ)
timed_entries v = timed v.entries v.times

-- what a call appended has the latest time
pub record StampsAll (old new : LockedView) : Type 0 where
  pub more : List Entry
  pub entered : new.entries ≡ old.entries ++ more
  pub stamped : new.times ≡ old.times ++ map (λ e. old.latest) more
  pub same : new.latest ≡ old.latest

-- the sender of a port
abbrev pub sender_in : List (ℕ × SenderView) → ℕ → Option SenderView
sender_in senders port = lookup (is_at (nat_cmp port)) senders

abbrev pub senders_of : BTreeMap ℕ SenderView → ℕ → Option SenderView
senders_of senders port = get nat_cmp senders port

-- ---- the label

-- a sender as it was made: what no turn changes of it
abbrev pub as_made : SenderView → SenderView
as_made s = record s { sent = []; mails = []; full = 0 }

abbrev pub made_senders : (ℕ → Option SenderView) → ℕ → Option SenderView
made_senders senders port = option_map as_made (senders port)

-- what no turn changes of a place
pub record PlaceLabel : Type 0 where
  pub number : ℕ
  pub places : ℕ
  -- by port
  pub senders : ℕ → Option SenderView
  -- the board, and the place for which the writer publishes
  pub board : BoardView
  pub writes_for : ℕ

abbrev pub label_of : LockedView → PlaceLabel
label_of v =
    record {
      number = v.number;
      places = v.places;
      senders = made_senders (sender_in v.senders);
      board = v.writer.board;
      writes_for = v.writer.place;
    }

-- of each port that has a sender, the mailbox is the one that it sends to; no other has a mailbox
abbrev pub AreMailboxesOf : BTreeMap ℕ MailboxView → (ℕ → Option SenderView) → Type 0
AreMailboxesOf mailboxes senders =
    (port : ℕ) → get nat_cmp mailboxes port
    ≡ option_map (λ (s : SenderView). s.mailbox) (senders port)

-- the mailboxes that a place's senders send to, and the board on which its writer publishes
pub record AreOutletsOf (outlets : Outlets) (label : PlaceLabel) : Type 0 where
  pub mailboxes : AreMailboxesOf outlets.mailboxes label.senders
  pub board : outlets.board ≡ label.board

-- ---- what is kept

-- the port that a queue is bound to
abbrev pub port_of : Option Bound → Option ℕ
port_of q = option_map (λ (b : Bound). b.port) q

abbrev pub port_at : List Entry → ℕ → Option ℕ
port_at es queue = port_of (state_of es queue)

-- each sender sent what the list says, and the port of each bound queue has one
pub record AreNotified (es : List Entry) (senders : ℕ → Option SenderView) : Type 0 where
  pub each : (port : ℕ) → IfSome (senders port) (HasSent es port)
  pub known : (queue : ℕ) → IfSome (port_at es queue) (λ port. IsSome (senders port))

-- no arrival is begun and unsettled, and what waits wasn't given up
pub record IsSettled (place : PlaceState) : Type 0 where
  pub no_offer : place.offer ≡ None
  pub standing : place.is_left ≡ false

-- What is kept whenever the lock is free. That each queue is the replay of its history, which is
-- legal, the place itself keeps.
pub record IsLockedPlace (place : PlaceState) (senders : ℕ → Option SenderView)
    (writer : WriterView) (times : List ℕ) (latest : ℕ) : Type 0 where
  pub settled : IsSettled place
  pub notified : AreNotified place.entries senders
  pub writes_for : writer.place ≡ place.number
  pub shown : IsShown place.entries writer.published
  pub in_time : AreTimed place.entries times latest
  pub mailed : AreMailed (timed place.entries times) senders
