-- What a verdict and a batch make of the queue's state, by the step.
use Rattle.std.proofs.Common.{◌≡◌, ℕ, suc, List, [], ◌∷◌, length, map, Some, refl}
use Rattle.std.proofs.Common.{ap, ◌∙◌, Option}
use Rattle.std.proofs.lemmas.Bool.{eq-eqb}
use Rattle.packet_entry.specs.declared.packet.Card.{Card}
use Rattle.nfqa_headers.specs.declared.verdict_header.Head.{Head}
use Rattle.queue_core.specs.declared.event.Reply.TheVariants.{Answer}
use Rattle.queue_core.specs.Decision.{IsVerdict}
use Rattle.queue_core.specs.State.{Bound}
use Rattle.queue_core.specs.Share.{share}
use Rattle.queue_core.specs.Step.{Stepped, batch, without_oldest}
use Rattle.queue_core.specs.Step.{leaving, batch_edit, shared_out, Way}
use Rattle.queue_core.specs.Calls.{hands_out, ways_of, handed_as, batch_handed}

-- each packet of a share leaves as it is handed out
same_ways : (head : Head) (mark priority : Option ℕ) (ws : List (ℕ × Card)) →
    map (λ (v : ℕ × Card). leaving head (batch_edit mark priority) v.1) ws
    ≡ ways_of (map (handed_as head mark priority) ws)
same_ways head mark priority [] = refl
same_ways head mark priority (w ∷ ws) =
    ap (λ ls. leaving head (batch_edit mark priority) w.1 ∷ ls) (same_ways head mark priority ws)

as_many : (head : Head) (mark priority : Option ℕ) (ws : List (ℕ × Card)) →
    length ws ≡ length (map (handed_as head mark priority) ws)
as_many head mark priority [] = refl
as_many head mark priority (w ∷ ws) = ap suc (as_many head mark priority ws)

-- a share that is handed out is the step's
handed_out : (q : Bound) (head : Head) (mark priority : Option ℕ) (ws : List (ℕ × Card)) →
    shared_out q head mark priority ws
    ≡ hands_out (without_oldest q (length ws)) (map (handed_as head mark priority) ws)
handed_out q head mark priority [] = refl
handed_out q head mark priority (w ∷ ws) =
    ap (λ n. given (without_oldest q (length (w ∷ ws))) n
    (map (λ (v : ℕ × Card). leaving head (batch_edit mark priority) v.1) (w ∷ ws)))
    (as_many head mark priority (w ∷ ws))
    ∙ ap (given (without_oldest q (length (w ∷ ws)))
    (length (map (handed_as head mark priority) (w ∷ ws)))) (same_ways head mark priority (w ∷ ws))
  where
    given : Bound → ℕ → List (Card × Way) → Stepped
    given q n left = record { state = Some q; reply = Answer 0 n; left = left }

-- a batch that isn't refused hands out its share
pub batch_shares : (q : Bound) (head : Head) (mark priority : Option ℕ) → IsVerdict head.verdict →
    batch (Some q) q.port (Some head) mark priority
    ≡ hands_out (without_oldest q (length (share q.waiting head.id)))
    (batch_handed q head mark priority)
batch_shares q head mark priority known =
    rw (eq-eqb q.port q.port refl, known)
    (handed_out q head mark priority (share q.waiting head.id))
