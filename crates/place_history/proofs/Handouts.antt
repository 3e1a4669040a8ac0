-- What is handed out of what left a queue.
use Rattle.std.proofs.Common.{◌≡◌, ℕ, List, [], ◌∷◌, map, length, refl, sym, Option, Bool, cond}
use Rattle.std.proofs.Common.{true, false}
use Rattle.std.specs.Prelude.{◌==◌, IfOk}
use Rattle.std.specs.declared.result.Result.{Result}
use Rattle.std.specs.declared.result.Result.TheVariants.{Ok, Err}
use Rattle.std.proofs.lemmas.List.{length-map}
use Rattle.packet_entry.specs.declared.packet.Card.{Card}
use Rattle.hook_chain.specs.declared.chain.Decision.{Decision}
use Rattle.nfqa_headers.specs.declared.verdict_header.Head.{Head}
use Rattle.queue_core.specs.Numbers.{verdict_drop, verdict_accept, verdict_queue, verdict_repeat}
use Rattle.queue_core.specs.Decision.{kind_of, decision_of}
use Rattle.queue_core.specs.Share.{share}
use Rattle.queue_core.specs.Calls.{ways_of, batch_handed, handed_as}
use Rattle.queue_core.specs.WithOffer.{WithOffer}
use Rattle.queue_core.specs.State.{Bound}
use Rattle.queue_core.specs.Step.{Gone, all_gone, way_of}
use Rattle.histories.specs.Happenings.{handed_of, all_handed}
use Rattle.place_history.specs.Changes.{Queues, Changes}

-- nothing of what is destroyed
pub none_handed : (q : Bound) → all_handed (all_gone q) ≡ []
none_handed q = none q.waiting
  where
    none : (ws : List (ℕ × Card)) →
        all_handed (map (λ (w : ℕ × Card). (w.1, Gone)) ws) ≡ []
    none [] = refl
    none (w ∷ ws) = none ws

pub gone_count : (q : Bound) → length q.waiting ≡ length (all_gone q)
gone_count q = sym (length-map q.waiting (λ (w : ℕ × Card). (w.1, Gone)))

-- ---- what a batch hands out

abbrev Kept : Card → Decision → Type 0
Kept card d = handed_of (card, way_of d) ≡ (card, d) ∷ []

-- what is handed out of one that isn't dropped is it
kept_handed : (verdict : ℕ) (card : Card) → (kind_of verdict == verdict_drop) ≡ false →
    handed_of (card, way_of (decision_of verdict)) ≡ (card, decision_of verdict) ∷ []
kept_handed verdict card kept =
    rw kept
    (either (Kept card) (kind_of verdict == verdict_accept) _ _ refl
    (either (Kept card) (kind_of verdict == verdict_queue) _ _ refl
    (either (Kept card) (kind_of verdict == verdict_repeat) _ _ refl refl)))
  where
    either : {X : Type 0} (P : X → Type 0) (b : Bool) (s t : X) → P s → P t → P (cond b s t)
    either P true s t h k = h
    either P false s t h k = k

pub all_kept : (q : Bound) (head : Head) (mark priority : Option ℕ) →
    (kind_of head.verdict == verdict_drop) ≡ false →
    all_handed (ways_of (batch_handed q head mark priority)) ≡ batch_handed q head mark priority
all_kept q head mark priority kept = each (share q.waiting head.id)
  where
    each : (ws : List (ℕ × Card)) →
        all_handed (ways_of (map (handed_as head mark priority) ws))
        ≡ map (handed_as head mark priority) ws
    each [] = refl
    each (w ∷ ws) =
        rw (kept_handed head.verdict (handed_as head mark priority w).0 kept, each ws) refl

pub all_dropped : (q : Bound) (head : Head) (mark priority : Option ℕ) →
    (kind_of head.verdict == verdict_drop) ≡ true →
    all_handed (ways_of (batch_handed q head mark priority)) ≡ []
all_dropped q head mark priority drop = each (share q.waiting head.id)
  where
    each : (ws : List (ℕ × Card)) →
        all_handed (ways_of (map (handed_as head mark priority) ws)) ≡ []
    each [] = refl
    each (w ∷ ws) = rw drop (each ws)

-- ---- what a call changes, said in other words

pub changed_so : {old new : Queues} {number : ℕ} {P Q : WithOffer → WithOffer → Type 0} →
    ((a b : WithOffer) → P a b → Q a b) → Changes old new number P → Changes old new number Q
changed_so f c = record {
  before = c.before;
  after = c.after;
  was = c.was;
  is = c.is;
  others = c.others;
  as_many = c.as_many;
  by = f c.before c.after c.by;
}

pub if_ok : {X Y : Type 0} {P Q : X → Type 0} → ((x : X) → P x → Q x) → (r : Result X Y) →
    IfOk r P → IfOk r Q
if_ok f (Ok x) h = f x h
if_ok f (Err y) h = h
