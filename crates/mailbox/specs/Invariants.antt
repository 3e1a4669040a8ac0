-- What the fields of a mailbox and its ends stand for, and what they keep.
use Rattle.std.specs.Prelude.{◌≡◌, ℕ, ◌≤◌, true, false, [], length, Option}
use Rattle.atomic_table.specs.Seated.{TableId}
use Rattle.atomic_table.specs.declared.shared.Seat.{Seat}
use Rattle.crossbeam_queue.specs.declared.array_queue.Doing.{Doing}
use Rattle.crossbeam_queue.specs.declared.array_queue.Slotted.{Slotted}
use Rattle.crossbeam_queue.specs.Passes.{Pass, view}
use Rattle.mailbox.specs.declared.view.Line.{Line}
use Rattle.mailbox.specs.declared.view.Post.{Post}
use Rattle.mailbox.specs.declared.view.Fill.{Fill}
use Rattle.mailbox.specs.Numbers.{least_capacity, most_capacity}
use Rattle.mailbox.specs.Lines.{IsTold, known_letters, known_numbers}
use Rattle.mailbox.specs.Views.{MailboxView, SenderView, ReceiverView, letters_in}
use Rattle.mailbox.specs.Views.{bare_letters}

-- ---- the mailbox
abbrev pub queue_id : {T V Q A : Type 0} → Slotted (Option T) (Doing T V) Q A → TableId
queue_id q = q.table.shared.table_id

abbrev pub mailbox_of : TableId → TableId → ℕ → MailboxView
mailbox_of queue gauge capacity =
    record { queue = queue; gauge = gauge; capacity = capacity }

-- the queue has as many places as the capacity; the gauge has one word, and its key is the capacity
pub record IsMailbox (places : ℕ) (gauge : TableId) (key capacity : ℕ) : Type 0 where
  pub roomy : places ≡ capacity
  pub words : gauge.words ≡ 1
  pub keyed : key ≡ capacity
  pub least : least_capacity ≤ capacity
  pub most : capacity ≤ most_capacity

-- the seat belongs to the mailbox's gauge, and knows its capacity
pub record IsChairOf (m : MailboxView) (c : Seat ℕ Fill) : Type 0 where
  pub gauge : c.table_id ≡ m.gauge
  pub capacity : c.me.0.capacity ≡ m.capacity

-- ---- senders
abbrev pub sender_of : Pass Post Line → Seat ℕ Fill → SenderView
sender_of p c =
    record {
      mailbox = mailbox_of p.table_id c.table_id c.me.0.capacity;
      number = (view p).role.number;
      made = (view p).role.made;
      sent = bare_letters (view p).put;
      mails = (view p).put;
      full = c.me.0.full;
    }

-- both seats are a sender's, of the same number, and what was claimed was put in
pub record IsSender (p : Pass Post Line) (c : Seat ℕ Fill) (number made : ℕ) : Type 0 where
  pub clear : p.me.1 ≡ []
  pub free : c.me.1 ≡ []
  pub numbered : number ≡ (view p).role.number
  pub counts : made ≡ (view p).role.made
  pub role : c.me.0.role ≡ (view p).role
  pub sends : (view p).role.sends ≡ true
  pub gets : (view p).role.gets ≡ false
  pub counted : c.me.0.claims ≡ length (view p).put

-- ---- the receiver
abbrev pub receiver_of : Pass Post Line → Seat ℕ Fill → ReceiverView
receiver_of p c =
    record {
      mailbox = mailbox_of p.table_id c.table_id c.me.0.capacity;
      received = (view p).got;
      empty = c.me.0.empty;
      joined = known_letters (view p);
      mails = (view p).known;
      made = (view p).role.made;
      full = c.me.0.full;
    }

-- both seats are the receiver's, and know the same senders; what was taken was freed
pub record IsReceiver (p : Pass Post Line) (c : Seat ℕ Fill) : Type 0 where
  pub clear : p.me.1 ≡ []
  pub free : c.me.1 ≡ []
  pub role : c.me.0.role ≡ (view p).role
  pub sends : (view p).role.sends ≡ false
  pub gets : (view p).role.gets ≡ true
  pub names : (view p).role.joined ≡ known_numbers (view p)
  pub freed : c.me.0.freed ≡ length (view p).got
  pub claims : c.me.0.claims ≡ letters_in (known_letters (view p))
  pub told : IsTold (view p)
