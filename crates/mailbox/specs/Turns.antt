-- What one turn at receiving came to.
use Rattle.std.specs.Prelude.{◌≡◌, ℕ, length}
use Rattle.mailbox.specs.declared.mailbox.Turn.{Turn}
use Rattle.mailbox.specs.declared.mailbox.Turn.TheVariants.{Got, Empty, Again}
use Rattle.mailbox.specs.Views.{ReceiverView, receiver_with, receiver_empty, HasAllSenders}
use Rattle.mailbox.specs.Views.{ArePrefixes, AreOfJoined, AreWhole, letters_in, NoneBeyond}
use Rattle.mailbox.specs.Views.{AreAccountedFor, AreTimedPrefixes}

-- of each sender that was joined, what was received is a prefix of what was sent, with times too,
-- and of a number that was never made nothing was; once all are joined, what was received and what is still inside
-- is what they sent, and nothing is where as much was received as sent
pub record IsFaithful (r : ReceiverView) : Type 0 where
  pub prefix : ArePrefixes r
  pub in_time : AreTimedPrefixes r
  pub senders : HasAllSenders r → AreOfJoined r
  pub whole : HasAllSenders r → letters_in r.joined ≡ length r.received → AreWhole r
  pub beyond : NoneBeyond r
  pub inside : HasAllSenders r → AreAccountedFor r

-- a letter was received; the mailbox was found empty; or nothing happened
abbrev pub TurnTells : ReceiverView → ReceiverView → Turn → Type 0
TurnTells old new (Got mail) =
    ((from : ℕ) × (new ≡ receiver_with old from mail)) × IsFaithful new
TurnTells old new Empty =
    (new ≡ receiver_empty old) × IsFaithful new × (HasAllSenders new → AreWhole new)
TurnTells old new Again = new ≡ old
