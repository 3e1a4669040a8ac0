-- A queue between its calls: its state, and the offer beside it.
use Rattle.std.specs.Prelude.{◌≡◌, ◌≤◌, ◌<◌, ◌+◌, ◌||◌, ℕ, length, Option, Some, None, false}
use Rattle.std.specs.Prelude.{nat_eq, ◌==◌, IfSome, IsTrue}
use Rattle.std.specs.List.{IsDistinct}
use Rattle.std.specs.Map.{keys_of}
use Rattle.packet_entry.specs.declared.packet.Card.{Card}
use Rattle.packet_entry.specs.declared.letter.Letter.{Letter}
use Rattle.nfqa_msgs.specs.Numbers.{copy_none, copy_meta, copy_packet, longest_range}
use Rattle.nfqa_msgs.specs.NoticeWriting.{notice}
use Rattle.queue_core.specs.Numbers.{id_count}
use Rattle.queue_core.specs.State.{Bound}
use Rattle.queue_core.specs.Step.{turns_away, next_id}

-- A queue, and the arrival whose notice was handed out and that isn't settled yet, with its id.
pub record WithOffer : Type 0 where
  pub state : Bound
  pub offer : Option (ℕ × Card)

-- how many packets an offer is
abbrev pub offers : Option (ℕ × Card) → ℕ
offers None = 0
offers (Some o) = 1

abbrev pub IsMode : ℕ → Type 0
IsMode mode = IsTrue ((mode == copy_none) || (mode == copy_meta) || (mode == copy_packet))

-- what each queue keeps
pub record IsQueue (w : WithOffer) : Type 0 where
  pub mode : IsMode w.state.mode
  pub range : w.state.range ≤ longest_range
  -- no two packets wait under one id
  pub apart : IsDistinct nat_eq (keys_of w.state.waiting)
  -- an offer stands under the next id, where the queue doesn't turn the arrival away
  pub next : IfSome w.offer (λ o. o.0 ≡ next_id w.state)
  pub undecided : IfSome w.offer (λ _. turns_away w.state ≡ false)
  -- fewer packets than there are ids
  pub few : length w.state.waiting + offers w.offer < id_count

-- the notice of a packet that would wait under this id here, on its way to the queue's port
abbrev pub letter_of : ℕ → Bound → ℕ → Card → Letter
letter_of queue q id card =
    record {
      queue = queue;
      number = card.number;
      visit = card.visit;
      bytes = notice queue q.mode q.range id card;
    }
