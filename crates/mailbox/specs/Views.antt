-- What contracts see of a mailbox and its ends, and what each call makes of it.
use Rattle.std.specs.Prelude.{◌≡◌, ℕ, ◌+◌, ◌<◌, ◌≤◌, List, [], ◌∷◌, ◌++◌, length, map, nat_eq}
use Rattle.std.specs.Prelude.{if◌then◌else◌}
use mathlib.Core.List.{IsPrefix}
use Rattle.atomic_table.specs.Seated.{TableId}
use Rattle.packet_entry.specs.declared.letter.Letter.{Letter}
use Rattle.mailbox.specs.declared.view.Mail.{Mail}
use Rattle.mailbox.specs.declared.view.Post.{Post}
use Rattle.mailbox.specs.Roles.{HasAll, In, made_known}

-- a mailbox: its two parts, by their own identities, and how many letters it holds at most
pub record MailboxView : Type 0 where
  pub queue : TableId
  pub gauge : TableId
  pub capacity : ℕ

-- what a sender knows
pub record SenderView : Type 0 where
  pub mailbox : MailboxView
  pub number : ℕ
  -- of number 0, how many senders were made, itself among them; else 0
  pub made : ℕ
  -- the letters that it sent, in this order
  pub sent : List Letter
  -- the letters that it sent, each with its time
  pub mails : List Mail
  -- how often a look found the mailbox full, and a letter came back
  pub full : ℕ

-- what the receiver knows
pub record ReceiverView : Type 0 where
  pub mailbox : MailboxView
  -- the letters that it received, in this order, each with its time and its sender's number
  pub received : List Post
  -- how often a look found the mailbox empty
  pub empty : ℕ
  -- the senders that were joined into it, by number, each with the letters that it had sent
  pub joined : List (ℕ × List Letter)
  -- the same with times
  pub mails : List (ℕ × List Mail)
  -- how many senders were made, once number 0 is joined; before, 0
  pub made : ℕ
  -- how often a letter came back to those joined
  pub full : ℕ

-- ---- senders
-- the sender that a new mailbox has
abbrev pub opening_sender : MailboxView → SenderView
opening_sender m =
    record { mailbox = m; number = 0; made = 1; sent = []; mails = []; full = 0 }

-- a letter more was sent
abbrev pub sender_with : SenderView → Mail → SenderView
sender_with s m = record s { sent = s.sent ++ m.letter ∷ []; mails = s.mails ++ m ∷ [] }

-- a letter came back
abbrev pub sender_back : SenderView → SenderView
sender_back s = record s { full = s.full + 1 }

-- the sender of number 0, which made another
abbrev pub parent_sender : SenderView → SenderView
parent_sender s = record s { made = s.made + 1 }

-- and the other: its number is how many were made before
abbrev pub child_sender : SenderView → SenderView
child_sender s =
    record { mailbox = s.mailbox; number = s.made; made = 0; sent = []; mails = []; full = 0 }

-- ---- the receiver
-- the receiver that a new mailbox has
abbrev pub opening_receiver : MailboxView → ReceiverView
opening_receiver m =
    record { mailbox = m; received = []; empty = 0; joined = []; mails = []; made = 0; full = 0 }

-- a letter more was received
abbrev pub receiver_with : ReceiverView → ℕ → Mail → ReceiverView
receiver_with r from m =
    record r {
      received = r.received ++ record { from = from; letter = m.letter; time = m.time } ∷ [];
    }

-- the mailbox was found empty
abbrev pub receiver_empty : ReceiverView → ReceiverView
receiver_empty r = record r { empty = r.empty + 1 }

-- a sender was joined
abbrev pub receiver_joined : ReceiverView → SenderView → ReceiverView
receiver_joined r s =
    record r {
      joined = r.joined ++ (s.number, s.sent) ∷ [];
      mails = r.mails ++ (s.number, s.mails) ∷ [];
      made = made_known s.number s.made r.made;
      full = r.full + s.full;
    }

-- ---- what was received of each sender
-- the letters of one sender, in their order
abbrev pub letters_of : ℕ → List Post → List Letter
letters_of k [] = []
letters_of k (p ∷ ps) =
    if nat_eq p.from k then p.letter ∷ letters_of k ps else letters_of k ps

-- a letter received, with its time
abbrev pub mail_of : Post → Mail
mail_of p = record { letter = p.letter; time = p.time }

-- the letters of one sender, in their order, each with its time
abbrev pub mails_of : ℕ → List Post → List Mail
mails_of k [] = []
mails_of k (p ∷ ps) =
    if nat_eq p.from k then mail_of p ∷ mails_of k ps else mails_of k ps

-- letters without their times
abbrev pub bare_letters : List Mail → List Letter
bare_letters mails = map (λ m. m.letter) mails

-- the senders, each with its letters without their times
abbrev pub bare_senders : List (ℕ × List Mail) → List (ℕ × List Letter)
bare_senders known = map (λ s. (s.0, bare_letters s.1)) known

-- the numbers of the senders
abbrev pub numbers : List (ℕ × List Letter) → List ℕ
numbers known = map (λ s. s.0) known

-- how many letters they sent together
abbrev pub letters_in : List (ℕ × List Letter) → ℕ
letters_in [] = 0
letters_in (s ∷ ss) = length s.1 + letters_in ss

-- it holds of each sender
abbrev pub All : (ℕ × List Letter → Type 0) → List (ℕ × List Letter) → Type 0
All P [] = Unit {0}
All P (s ∷ ss) = P s × All P ss

-- of each sender, the letters received are a prefix of those that it sent
abbrev pub Prefixes : List Post → List (ℕ × List Letter) → Type 0
Prefixes received known = All (λ s. IsPrefix (letters_of s.0 received) s.1) known

-- of each sender, the letters received with their times are a prefix of those that it sent
abbrev pub TimedPrefixes : List Post → List (ℕ × List Mail) → Type 0
TimedPrefixes received [] = Unit {0}
TimedPrefixes received (s ∷ ss) =
    IsPrefix (mails_of s.0 received) s.1 × TimedPrefixes received ss

-- of each sender, the letters received are those that it sent
abbrev pub Wholes : List Post → List (ℕ × List Letter) → Type 0
Wholes received known = All (λ s. letters_of s.0 received ≡ s.1) known

-- number 0 and every other sender made were joined
abbrev pub HasAllSenders : ReceiverView → Type 0
HasAllSenders r = HasAll r.made (numbers r.joined)

-- each letter received is of one of these senders
abbrev pub AreOf : List Post → List ℕ → Type 0
AreOf [] senders = Unit {0}
AreOf (p ∷ ps) senders = In p.from senders × AreOf ps senders

abbrev pub AreOfJoined : ReceiverView → Type 0
AreOfJoined r = AreOf r.received (numbers r.joined)

-- each number joined is one that was made, once it is known how many were
abbrev pub AreMade : ℕ → List ℕ → Type 0
AreMade made joined = In 0 joined → (k : ℕ) → In k joined → k < made

-- no letter was received of a number that was never made, once it is known how many were
abbrev pub NoneBeyond : ReceiverView → Type 0
NoneBeyond r =
    In 0 (numbers r.joined) → (k : ℕ) → r.made ≤ k → letters_of k r.received ≡ []

-- With the letters `inside`, which are still to be received, those received are all that these
-- senders sent: of each the letters that it sent, in its order, and none of anyone else
pub record AccountFor (received : List Post) (known : List (ℕ × List Letter)) : Type 0 where
  pub inside : List Post
  pub whole : Wholes (received ++ inside) known
  pub senders : AreOf (received ++ inside) (numbers known)

abbrev pub AreAccountedFor : ReceiverView → Type 0
AreAccountedFor r = AccountFor r.received r.joined

abbrev pub ArePrefixes : ReceiverView → Type 0
ArePrefixes r = Prefixes r.received r.joined

abbrev pub AreTimedPrefixes : ReceiverView → Type 0
AreTimedPrefixes r = TimedPrefixes r.received r.mails

abbrev pub AreWhole : ReceiverView → Type 0
AreWhole r = Wholes r.received r.joined
