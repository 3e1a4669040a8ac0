-- What ports received, against what the places' lists say.
use Rattle.std.specs.Prelude.{◌≡◌, ◌<◌, ◌≤◌, ◌⊎◌, ℕ, List, [], ◌∷◌, length, map, Option, Some}
use Rattle.std.specs.Prelude.{None}
use Rattle.std.specs.Prelude.{sum_by, filter, nat_eq, if◌then◌else◌, ◌==◌}
use mathlib.Core.List.{IsPrefix}
use Rattle.std.specs.BTreeMap.{BTreeMap, get}
use Rattle.std.specs.Ordering.{nat_cmp}
use Rattle.packet_entry.specs.declared.letter.Letter.{Letter}
use Rattle.mailbox.specs.declared.view.Post.{Post}
use Rattle.mailbox.specs.Views.{MailboxView, SenderView, ReceiverView, receiver_joined, letters_in}
use Rattle.mailbox.specs.Views.{ArePrefixes, AreTimedPrefixes, AreWhole, HasAllSenders, NoneBeyond}
use Rattle.histories.specs.declared.entry.Entry.{Entry}
use Rattle.histories.specs.History.{history}
use Rattle.locked_place.specs.Notices.{letters_to, lacking}
use Rattle.place_rows.specs.declared.ending.PortReceiver.{PortReceiver}
use Rattle.place_rows.specs.Lists.{AllFrom}
use Rattle.place_rows.specs.Rows.{Known}
use Rattle.place_rows.specs.Shares.{sent_in_all}

-- the letters that were received, of all queues and of one
abbrev pub letters_heard : List Post → List Letter
letters_heard received = map (λ (p : Post). p.letter) received

abbrev pub letters_heard_of : ℕ → List Post → List Letter
letters_heard_of queue received =
    filter (λ (l : Letter). l.queue == queue) (letters_heard received)

-- What a port received from a mailbox that holds so many letters, of these entries, where so many
-- notices were put there: of each queue a beginning of its notices, and all of them where as many
-- letters were received as were put in. Where an arrival found no room, as many were put in as the
-- mailbox holds.
pub record HasHeard (es : List Entry) (sent capacity port : ℕ) (received : List Post) : Type 0 where
  pub prefix : (queue : ℕ) →
      IsPrefix (letters_heard_of queue received) (letters_to port (history queue es))
  pub all : sent ≡ length received → (queue : ℕ) →
      letters_heard_of queue received ≡ letters_to port (history queue es)
  pub room : (queue : ℕ) → 0 < lacking port (history queue es) → capacity ≤ sent

-- of the entries of these rows
abbrev pub HasHeardOf : List Entry → List (List Known) → ℕ → ReceiverView → Type 0
HasHeardOf es rows port r =
    HasHeard es (sent_in_all port rows) r.mailbox.capacity port r.received

-- ---- receivers of ports

-- how often a port is among these
abbrev pub times_in : ℕ → List PortReceiver → ℕ
times_in port ps = sum_by (λ (p : PortReceiver). if nat_eq p.port port then 1 else 0) ps

-- the receiver of a port's mailbox, into which no sender was joined yet
pub record HasMailbox (mailboxes : BTreeMap ℕ MailboxView) (p : PortReceiver) : Type 0 where
  pub mailbox : get nat_cmp mailboxes p.port ≡ Some p.receiver.mailbox
  pub none_joined : p.receiver.joined ≡ []
  pub none_mailed : p.receiver.mails ≡ []
  pub none_back : p.receiver.full ≡ 0

-- there is a sender to its mailbox among these
pub record HasSender (mailboxes : BTreeMap ℕ MailboxView) (senders : BTreeMap ℕ SenderView)
    (p : PortReceiver) : Type 0 where
  pub sender : SenderView
  pub there : get nat_cmp senders p.port ≡ Some sender
  pub mailbox : get nat_cmp mailboxes p.port ≡ Some p.receiver.mailbox
  pub same : sender.mailbox ≡ p.receiver.mailbox

-- a sender, if there is one, was joined into its receiver
abbrev pub with_sender : PortReceiver → Option SenderView → PortReceiver
with_sender p None = p
with_sender p (Some s) = record p { receiver = receiver_joined p.receiver s }

abbrev pub with_its_sender : BTreeMap ℕ SenderView → PortReceiver → PortReceiver
with_its_sender senders p = with_sender p (get nat_cmp senders p.port)

-- What a mailbox tells as a sender is joined. Of each sender that was joined the letters received
-- are a prefix of those that it sent, also with their times, and all of them once all were joined
-- and as many were received as were sent; no letter is of a sender that was never made; and where a
-- letter came back, as many were sent as the mailbox holds.
pub record IsHeardAll (r : ReceiverView) : Type 0 where
  pub prefix : ArePrefixes r
  pub in_time : AreTimedPrefixes r
  pub whole : HasAllSenders r → letters_in r.joined ≡ length r.received → AreWhole r
  pub full : HasAllSenders r → 0 < r.full → r.mailbox.capacity ≤ letters_in r.joined
  pub beyond : NoneBeyond r

abbrev pub IsHeard : PortReceiver → Type 0
IsHeard p = IsHeardAll p.receiver

-- ---- senders joined into a receiver

-- this one is among those
abbrev pub Among : {X : Type 0} → ℕ × List X → List (ℕ × List X) → Type 0
Among x [] = ⊥
Among x (y ∷ ys) = (x ≡ y) ⊎ Among x ys

-- The senders of the places from n on, among so many, were joined into a port's receiver: each had
-- sent the notices of its place's list.
pub record Hears (places n : ℕ) (lists : List (List Entry)) (port : ℕ) (r : ReceiverView) : Type 0
  where
    pub joined : AllFrom (λ k l. Among (k, letters_to port l) r.joined) n lists
    pub count : letters_in r.joined ≡ sum_by (λ l. length (letters_to port l)) lists
    pub full : r.full ≡ sum_by (λ l. lacking port l) lists
    pub made : n ≡ 0 → 0 < length lists → r.made ≡ places

-- a port's receiver, of which only the senders joined into it have changed: it hears what the
-- lists of the places from n on say
pub record HearsAs (places n : ℕ) (lists : List (List Entry)) (old new : PortReceiver) : Type 0
  where
    pub port : new.port ≡ old.port
    pub received : new.receiver.received ≡ old.receiver.received
    pub mailbox : new.receiver.mailbox ≡ old.receiver.mailbox
    pub hears : Hears places n lists old.port new.receiver
