-- The calls of a bound queue, each as the step of its event.
use Rattle.std.specs.Prelude.{◌≡◌, ◌≢◌, ℕ, List, [], ◌∷◌, map, length, Option, Some, None, Bool}
use Rattle.std.specs.Prelude.{true, false}
use Rattle.packet_entry.specs.declared.packet.Card.{Card}
use Rattle.packet_entry.specs.Numbers.{last_visit}
use Rattle.hook_chain.specs.declared.chain.Decision.{Decision}
use Rattle.nfqa_headers.specs.declared.verdict_header.Head.{Head}
use Rattle.nfqa_msgs.specs.NoticeWriting.{FitsTold, told_of}
use Rattle.nfqa_msgs.specs.Numbers.{enoent}
use Rattle.queue_core.specs.declared.offers.Begun.{Begun}
use Rattle.queue_core.specs.declared.offers.Begun.TheVariants as begun
use Rattle.queue_core.specs.declared.offers.Settled.{Settled}
use Rattle.queue_core.specs.declared.offers.Settled.TheVariants as settled
use Rattle.queue_core.specs.declared.offers.Outcome.TheVariants as outcome
use Rattle.queue_core.specs.declared.event.Event.TheVariants as event
use Rattle.queue_core.specs.declared.event.Reply.TheVariants as reply
use Rattle.queue_core.specs.State.{Bound}
use Rattle.queue_core.specs.Step.{Way, Stepped, step, arrive_bound, turns_away, next_id, way_of}
use Rattle.queue_core.specs.Step.{unchanged, batch_edit}
use Rattle.queue_core.specs.Decision.{edited, decision_of}
use Rattle.queue_core.specs.Share.{share}
use Rattle.queue_core.specs.WithOffer.{WithOffer, letter_of}

-- What an arrival at a bound queue comes to: the lines from the copy mode on, and so the step of an
-- arrival in time, with the bypass or without.
pub record ArrivesAs (q : Bound) (card : Card) (room : Bool) (s : Stepped) : Type 0 where
  pub lines : arrive_bound q card room ≡ s
  pub step : card.visit ≢ last_visit → (bypass : Bool) →
      step (Some q) (event.Arrive card bypass room) ≡ s

-- What the first call answers, and the queue before and after it. What is decided early comes back,
-- as the arrival's step says. Otherwise the notice goes to the queue's port, and the offer stands
-- under the next id.
abbrev pub BeginsArrival : Begun → ℕ → Card → WithOffer → WithOffer → Type 0
BeginsArrival (begun.Offered port letter) queue card old new =
    (turns_away old.state ≡ false) × (port ≡ old.state.port)
    × (letter ≡ letter_of queue old.state (next_id old.state) card)
    × (new ≡ record { state = old.state; offer = Some (next_id old.state, card) })
    × FitsTold (told_of queue old.state.mode old.state.range (next_id old.state) card)
BeginsArrival (begun.Back answer back) queue card old new =
    (turns_away old.state ≡ true) × (back ≡ card) × (new.offer ≡ None)
    × (way : Way)
    × ((room : Bool) → ArrivesAs old.state card room (record {
      state = Some new.state;
      reply = reply.Arrived answer;
      left = (card, way) ∷ [];
    }))

-- What the second call answers of the card that was offered, and the queue before and after it: the
-- arrival's step.
abbrev pub SettlesArrival : Settled → Card → Bool → WithOffer → WithOffer → Type 0
SettlesArrival (settled.Waiting id) card room old new =
    (new.offer ≡ None)
    × ArrivesAs old.state card room (record {
      state = Some new.state;
      reply = reply.Arrived (outcome.Taken id);
      left = [];
    })
SettlesArrival (settled.Back answer back) card room old new =
    (back ≡ card) × (new.offer ≡ None)
    × (way : Way)
    × ArrivesAs old.state card room (record {
      state = Some new.state;
      reply = reply.Arrived answer;
      left = (card, way) ∷ [];
    })

-- what is handed out, as the step has it
abbrev pub ways_of : List (Card × Decision) → List (Card × Way)
ways_of handed = map (λ h. (h.0, way_of h.1)) handed

-- a verdict or a batch that isn't refused, by what it handed out: nothing, since it found none to
-- take, or so many
abbrev pub hands_out : Bound → List (Card × Decision) → Stepped
hands_out q [] = unchanged (Some q) enoent
hands_out q (h ∷ hs) = record {
  state = Some q;
  reply = reply.Answer 0 (length (h ∷ hs));
  left = ways_of (h ∷ hs);
}

-- one of a share as it is handed out: with the mark and priority that are given, and the decision
abbrev pub handed_as : Head → Option ℕ → Option ℕ → ℕ × Card → Card × Decision
handed_as head mark priority w = (edited (batch_edit mark priority) w.1, decision_of head.verdict)

-- what a batch hands out
abbrev pub batch_handed : Bound → Head → Option ℕ → Option ℕ → List (Card × Decision)
batch_handed q head mark priority =
    map (handed_as head mark priority) (share q.waiting head.id)
