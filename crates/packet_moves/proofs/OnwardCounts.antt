-- What a request lets go on, counted.
use Rattle.std.proofs.Common.{◌≡◌, ◌≤◌, ℕ, List, [], ◌∷◌, length, Option, Some, None, Bool}
use Rattle.std.proofs.Common.{true, arith, cond, refl}
use Rattle.std.specs.Prelude.{count_by, map}
use Rattle.std.proofs.lemmas.List.{length-map}
use Rattle.std.proofs.lemmas.List.Sums.{sum_by-cons}
use Rattle.packet_entry.specs.declared.packet.Card.{Card}
use Rattle.hook_chain.specs.declared.chain.Decision.{Decision}
use Rattle.nfqa_msgs.specs.declared.request.Request.{Request}
use Rattle.queue_core.specs.declared.event.Event.TheVariants.{Ask}
use Rattle.queue_core.specs.State.{Bound}
use Rattle.queue_core.specs.Step.{Way, Gone, Open, Decided, step}
use Rattle.queue_core.specs.Laws.{IsConserving, times, waiting_in}
use Rattle.histories.specs.States.{waiting_at}
use Rattle.histories.specs.Happenings.{all_handed}
use Rattle.packet_moves.specs.HandedOn.{is_out_of_time, AreInTime}

-- 1 where the test passes
abbrev pub once : Bool → ℕ
once b = cond b 1 0

-- no more are handed out than left
pub fewer : (left : List (Card × Way)) → length (all_handed left) ≤ length left
fewer [] = omega arith
fewer ((card, Gone) ∷ left) = omega (arith, fewer left)
fewer ((card, Open) ∷ left) = omega (arith, fewer left)
fewer ((card, Decided decision) ∷ left) = omega (arith, fewer left)

count_all : {X : Type 0} (xs : List X) → count_by (λ _. true) xs ≡ length xs
count_all [] = refl
count_all (x ∷ xs) = omega (arith, count_all xs, sum_by-cons (λ _. 1) x xs)

-- as many wait as the count of all says
all_waiting : (q : Option Bound) → times (λ _ _. true) (waiting_in q) ≡ waiting_at q
all_waiting None = refl
all_waiting (Some q) =
    omega (arith, count_all (map (λ w. w.1) q.waiting), length-map q.waiting (λ w. w.1))

all_leaving : (left : List (Card × Way)) →
    times (λ _ _. true) (map (λ l. l.0) left) ≡ length left
all_leaving left = omega (arith, count_all (map (λ l. l.0) left), length-map left (λ l. l.0))

-- no more packets are handed out of a request than waited
pub no_more_than_waited : (q : Option Bound) (port call : ℕ) (request : Request) →
    IsConserving q (Ask port call request) →
    length (all_handed (step q (Ask port call request)).left) ≤ waiting_at q
no_more_than_waited q port call request conserves =
    let s = step q (Ask port call request) in
    omega (
      arith,
      conserves (λ _ _. true),
      all_waiting q,
      all_waiting s.state,
      all_leaving s.left,
      fewer s.left,
    )

-- those that are handed out have the visits of those that left
abbrev pub out_of_time : ℕ → ℕ → Bool
out_of_time number visit = is_out_of_time visit

handed_out_of_time : (left : List (Card × Way)) →
    count_by (λ (h : Card × Decision). is_out_of_time h.0.visit) (all_handed left)
    ≤ times out_of_time (map (λ l. l.0) left)
handed_out_of_time [] = omega arith
handed_out_of_time ((card, Gone) ∷ left) =
    omega (
      arith,
      handed_out_of_time left,
      sum_by-cons (λ (c : Card). once (is_out_of_time c.visit)) card (map (λ l. l.0) left),
    )
handed_out_of_time ((card, Open) ∷ left) =
    omega (
      arith,
      handed_out_of_time left,
      sum_by-cons (λ (c : Card). once (is_out_of_time c.visit)) card (map (λ l. l.0) left),
    )
handed_out_of_time ((card, Decided decision) ∷ left) =
    omega (
      arith,
      handed_out_of_time left,
      sum_by-cons (λ (c : Card). once (is_out_of_time c.visit)) card (map (λ l. l.0) left),
      sum_by-cons (λ (h : Card × Decision). once (is_out_of_time h.0.visit)) (card, decision)
          (all_handed left),
    )

pub handed_in_time : (q : Option Bound) (port call : ℕ) (request : Request) →
    IsConserving q (Ask port call request) → times out_of_time (waiting_in q) ≡ 0 →
    AreInTime (all_handed (step q (Ask port call request)).left)
handed_in_time q port call request conserves none =
    let s = step q (Ask port call request) in
    omega (arith, conserves out_of_time, none, handed_out_of_time s.left)
