-- A row: what one holder has of the locks of all places, which is one pass for each.
use Rattle.std.specs.Prelude.{◌≡◌, ◌<◌, ◌≤◌, ℕ, List, [], map, slice_get, slice_set, Some, false}
use Rattle.std.specs.Prelude.{true}
use Rattle.std.specs.Prelude.{option_map, nat_eq, if◌then◌else◌}
use Rattle.std.specs.BTreeMap.{get}
use Rattle.std.specs.Ordering.{nat_cmp}
use Rattle.atomic_table.specs.Seated.{TableId}
use Rattle.mailbox.specs.Views.{MailboxView, SenderView}
use Rattle.turn_lock.specs.declared.view.View.{View}
use Rattle.turn_lock.specs.declared.view.Turn.TheVariants.{Outside}
use Rattle.turn_lock.specs.declared.storied.Storied.{Ghosts}
use Rattle.turn_lock.specs.declared.pass.Pass.{Pass}
use Rattle.turn_lock.specs.declared.lock.TurnLock.{TurnLock}
use Rattle.turn_lock.specs.Parts.{void, is_normal}
use Rattle.turn_lock.specs.Views.{label_of}
use Rattle.turn_lock.specs.Passes.{view_of}
use Rattle.histories.specs.declared.entry.Entry.{Entry}
use Rattle.histories.specs.History.{AreLegal}
use Rattle.locked_place.specs.declared.outlets.Outlets.{Outlets}
use Rattle.locked_place.specs.Views.{LockedView, PlaceLabel}
use Rattle.locked_place.specs.Passes.{IsPassOf}
use Rattle.locked_place.specs.Turns.{IsTurn}
use Rattle.locked_place.specs.Times.{plain_view}

-- what a pass knows of a place; a row knows one of these for each place, in the places' order
abbrev pub Known : Type 0
Known = View Entry LockedView

-- the same with the time of each entry
abbrev pub TimedKnown : Type 0
TimedKnown = View (Entry × ℕ) LockedView

-- without times
abbrev pub known_of : List TimedKnown → List Known
known_of timed = map plain_view timed

-- ---- labels

-- the sender to a mailbox that a place is given, as it is made: the one of place 0 knows how many
-- there are
abbrev pub sender_made : ℕ → ℕ → MailboxView → SenderView
sender_made places number mailbox =
    record {
      mailbox = mailbox;
      number = number;
      made = if nat_eq number 0 then places else 0;
      sent = [];
      mails = [];
      full = 0;
    }

-- the label of the place with this number, among as many as the board has
abbrev pub label_at : Outlets → ℕ → PlaceLabel
label_at outlets number =
    record {
      number = number;
      places = outlets.board.places;
      senders = λ port. option_map (sender_made outlets.board.places number)
          (get nat_cmp outlets.mailboxes port);
      board = outlets.board;
      writes_for = number;
    }

-- ---- passes of a row

module _ {S E L : Type 0} where
  -- what a pass knows of its lock between turns: the lock's state has this label, and the pass has
  -- a part of the lock
  pub record IsKnown (label : S → L) (named : L) (v : View E S) : Type 0 where
    pub outside : v.turn ≡ Outside
    pub named_so : label_of label v ≡ Some named
    pub normal : is_normal v.part ≡ true
    pub live : void v.part ≡ false

  -- each is known so by its number's label
  abbrev pub AreKnown : (S → L) → (ℕ → L) → List (View E S) → Type 0
  AreKnown label named known =
      (k : ℕ) (v : View E S) → slice_get known k ≡ Some v → IsKnown label (named k) v

module _ {S E : Type 0} where
  -- the lock that a pass belongs to, and a lock itself
  abbrev pub lock_of : {g : Ghosts S E} → Pass S E g → TableId
  lock_of pass = pass.seat.table_id

  abbrev pub id_of : TurnLock S E → TableId
  id_of lock = lock.table.shared.table_id

module _ {S E : Type 0} {g : Ghosts S E} {L : Type 0} where
  -- a row of these locks: a pass of each, between turns
  pub record ArePasses (label : S → L) (named : ℕ → L) (locks : List (TurnLock S E))
      (row : List (Pass S E g)) : Type 0 where
    pub locks_are : map lock_of row ≡ map id_of locks
    pub known : AreKnown label named (map view_of row)

  -- the pass is of the lock with this number
  pub record IsPassAt (label : S → L) (named : ℕ → L) (locks : List (TurnLock S E)) (k : ℕ)
      (pass : Pass S E g) : Type 0 where
    pub lock : TurnLock S E
    pub there : slice_get locks k ≡ Some lock
    pub of : IsPassOf label (named k) lock pass

-- ---- turns of a row

module _ {V : Type 0} where
  -- of several, the one with this number took a turn
  pub record TurnsOne (place : ℕ) (olds news : List V) (Turns : V → V → Type 0) : Type 0 where
    pub before : V
    pub after : V
    pub had : slice_get olds place ≡ Some before
    pub has : news ≡ slice_set olds place after
    pub turns : Turns before after

  -- this one has become the one with this number
  pub record HasTurned (before : V) (news : List V) (place : ℕ) (Turns : V → V → Type 0)
      : Type 0 where
    pub after : V
    pub at : slice_get news place ≡ Some after
    pub turns : Turns before after

  -- those before place n have taken a turn each, and the others none
  pub record TurnedUpTo (n : ℕ) (olds news : List V) (Turns : V → V → Type 0) : Type 0 where
    pub done : (k : ℕ) (v : V) → k < n → slice_get olds k ≡ Some v → HasTurned v news k Turns
    pub rest : (k : ℕ) → n ≤ k → slice_get news k ≡ slice_get olds k

-- A turn of a row at one place: it found this list, and left that one.
pub record IsTurnAt (place : ℕ) (olds news : List Known) (found then_ : List Entry) : Type 0 where
  pub one : TurnsOne place olds news (λ v w. IsTurn v found then_ w)
  pub legal : AreLegal then_
