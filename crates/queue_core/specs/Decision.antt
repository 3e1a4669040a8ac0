-- What a verdict decides (uapi netfilter.h: NF_DROP .. NF_STOP, NF_VERDICT_MASK, NF_VERDICT_QBITS),
-- and what it changes of its packet.
use Rattle.std.specs.Prelude.{ℕ, ◌+◌, ◌%◌, ◌/◌, ◌&&◌, not, Bool, ◌==◌, nat_le, IsTrue}
use Rattle.std.specs.Prelude.{if◌then◌else◌, List, Option}
use Rattle.packet_entry.specs.declared.packet.Card.{Card}
use Rattle.packet_entry.specs.Card as card
use Rattle.hook_chain.specs.declared.chain.Decision.{Decision}
use Rattle.hook_chain.specs.declared.chain.Decision.TheVariants as way
use Rattle.queue_core.specs.Numbers.{verdict_mask, verdict_drop, verdict_accept, verdict_stolen}
use Rattle.queue_core.specs.Numbers.{verdict_queue, verdict_repeat, verdict_stop, bypass_bit}
use Rattle.queue_core.specs.Numbers.{queue_number_place}

-- which verdict it is, by its low 8 bits
abbrev pub kind_of : ℕ → ℕ
kind_of verdict = verdict % (verdict_mask + 1)

-- whether a verdict isn't refused: its kind is known, and isn't STOLEN
abbrev pub is_verdict : ℕ → Bool
is_verdict verdict = nat_le (kind_of verdict) verdict_stop
    && not (kind_of verdict == verdict_stolen)

abbrev pub IsVerdict : ℕ → Type 0
IsVerdict verdict = IsTrue (is_verdict verdict)

-- the decision of a verdict that isn't refused; a queue verdict has the queue's number and the
-- bypass
abbrev pub decision_of : ℕ → Decision
decision_of verdict =
    if kind_of verdict == verdict_drop then way.Drop
    else if kind_of verdict == verdict_accept then way.Accept
    else if kind_of verdict == verdict_queue
    then way.Queue (verdict / queue_number_place) (verdict / bypass_bit % 2 == 1)
    else if kind_of verdict == verdict_repeat then way.Repeat
    else way.Stop

-- what a verdict changes of its packet: the mark, the bytes and the priority, as far as they are
-- given
pub record Edit : Type 0 where
  pub mark : Option ℕ
  pub payload : Option (List ℕ)
  pub priority : Option ℕ

abbrev pub edited : Edit → Card → Card
edited edit c = card.edited c edit.mark edit.payload edit.priority
