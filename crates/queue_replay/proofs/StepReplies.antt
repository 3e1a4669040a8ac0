-- What an entry's reply tells of its step: which packets go on.
use Rattle.std.proofs.Common.{◌≡◌, ℕ, zero, suc, List, [], ◌∷◌, ◌++◌, map, take, Option}
use Rattle.std.proofs.Common.{Some, None, cond, refl, sym, ap, ◌∙◌, append-nil, arith}
use Rattle.std.specs.Prelude.{◌==◌}
use Rattle.packet_entry.specs.declared.packet.Card.{Card}
use Rattle.packet_entry.specs.Card.{edited}
use Rattle.hook_chain.specs.declared.chain.Decision.{Decision}
use Rattle.hook_chain.specs.declared.chain.Decision.TheVariants as decision
use Rattle.nfqa_headers.specs.declared.verdict_header.Head.{Head}
use Rattle.nfqa_msgs.specs.declared.request.Request.{Request}
use Rattle.nfqa_msgs.specs.declared.request.Request.TheVariants as request
use Rattle.queue_core.specs.declared.offers.Outcome.{Outcome}
use Rattle.queue_core.specs.declared.offers.Outcome.TheVariants as outcome
use Rattle.queue_core.specs.declared.event.Event.{Event}
use Rattle.queue_core.specs.declared.event.Reply.{Reply}
use Rattle.queue_core.specs.Decision.{decision_of}
use Rattle.queue_core.specs.State.{Bound}
use Rattle.queue_core.specs.Step.{Stepped, Gone, step, way_of, leaving, batch_edit}
use Rattle.queue_core.specs.Laws.{stays_in, way_by}
use Rattle.queue_core.specs.Walk.{either, Shapes, walk_by_shape, stands_first}
use Rattle.histories.specs.declared.entry.Entry.{Entry}
use Rattle.histories.specs.History.{IsStep}
use Rattle.queue_replay.specs.Going.{going, all_going}
use Rattle.queue_replay.specs.Telling.{Waiting, waiting_of, told_going, one_going, each_going}
use Rattle.queue_replay.specs.Telling.{is_on, Leavers, going_after_ask, going_at_arrival}

-- what a decision lets go on
going_is : (c : Card) (d : Decision) →
    cond (is_on d) ((c, d) ∷ []) [] ≡ going (c, way_of d)
going_is c decision.Drop = refl
going_is c decision.Accept = refl
going_is c decision.Repeat = refl
going_is c decision.Stop = refl
going_is c (decision.Queue number bypass) = refl

-- what an arrival that leaves at once lets go on
arrival_going : (card : Card) (o : Outcome) → stays_in o ≡ 0 →
    going_at_arrival card o ≡ all_going ((card, way_by o) ∷ [])
arrival_going card (outcome.Taken id) stays = absurd (omega (arith, stays))
arrival_going card other stays = refl

-- what is destroyed doesn't go on
none_goes : (ws : Waiting) → [] ≡ all_going (map (λ (w : ℕ × Card). (w.1, Gone)) ws)
none_goes [] = refl
none_goes (w ∷ ws) = none_goes ws

each_goes : (head : Head) (mark priority : Option ℕ) (ws : Waiting) →
    each_going head.verdict mark priority ws
    ≡ all_going (map (λ (v : ℕ × Card). leaving head (batch_edit mark priority) v.1) ws)
each_goes head mark priority [] = refl
each_goes head mark priority (w ∷ ws) =
    ap (λ (xs : Leavers). xs ++ each_going head.verdict mark priority ws)
    (going_is (edited w.1 mark None priority) (decision_of head.verdict))
    ∙ ap (λ (xs : Leavers). going (leaving head (batch_edit mark priority) w.1) ++ xs)
    (each_goes head mark priority ws)

-- ---- where nothing is taken, or nothing waits

none_taken : {X : Type 0} (n : ℕ) → take n (let xs : List X = [] in xs) ≡ []
none_taken zero = refl
none_taken (suc n) = refl

nothing_taken : (asked : Request) (ws : Waiting) → going_after_ask asked 0 ws ≡ []
nothing_taken (request.Config named command params maximum flags mask) ws = refl
nothing_taken (request.Verdict named None mark payload priority) ws = refl
nothing_taken (request.Verdict named (Some head) mark payload priority) ws = refl
nothing_taken (request.Batch named None mark priority) ws = refl
nothing_taken (request.Batch named (Some head) mark priority) ws = refl

pub none_going : (asked : Request) (taken : ℕ) → going_after_ask asked taken [] ≡ []
none_going (request.Config named command params maximum flags mask) taken = refl
none_going (request.Verdict named None mark payload priority) taken = refl
none_going (request.Verdict named (Some head) mark payload priority) taken =
    either (λ (xs : Leavers). xs ≡ []) (taken == 0) [] [] (λ is. refl) (λ no. refl)
none_going (request.Batch named None mark priority) taken = refl
none_going (request.Batch named (Some head) mark priority) taken =
    ap (each_going head.verdict mark priority) (none_taken taken)

-- ---- steps

-- a step's reply tells what goes on in it
abbrev IsTold : Option Bound → Event → Stepped → Type 0
IsTold q e s = told_going e s.reply (waiting_of q) ≡ all_going s.left

shapes : Shapes IsTold
shapes = record {
  leaves = λ q card bypass room o stays timely. arrival_going card o stays;
  counts = λ b last dropped user_dropped card bypass room o stays timely.
      arrival_going card o stays;
  joins = λ b card bypass room early had. refl;
  answered = λ q port call asked errno. nothing_taken asked (waiting_of q);
  ends = λ b port call named a own. none_goes b.waiting;
  binds = λ port call named a settings. refl;
  sets_up = λ b port call named a settings own. refl;
  decides = λ b port call named head edit card own found.
      ap (one_going head.verdict edit.mark edit.payload edit.priority) found
      ∙ going_is (edited card edit.mark edit.payload edit.priority) (decision_of head.verdict)
      ∙ sym (append-nil (going (leaving head edit card)));
  shares = λ b port call named head mark priority w ws own is.
      ap (each_going head.verdict mark priority) (stands_first b.waiting (w ∷ ws) head.id is)
      ∙ each_goes head mark priority (w ∷ ws);
  none_closed = λ port. refl;
  closes = λ b port. none_goes b.waiting;
  none_down = λ q device. refl;
  flushes = λ b device. none_goes b.waiting;
}

-- an entry that is a step tells what goes on in it
pub entry_tells : (q : Option Bound) (e : Entry) → IsStep q e →
    told_going e.event e.reply (waiting_of q) ≡ all_going (step q e.event).left
entry_tells q e is =
    ap (λ (r : Reply). told_going e.event r (waiting_of q)) is.reply
    ∙ walk_by_shape IsTold shapes q e.event
