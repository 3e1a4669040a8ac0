-- What an entry's reply tells of its step: which packets leave.
use Rattle.std.proofs.Common.{◌≡◌, ℕ, zero, suc, List, [], ◌∷◌, map, length, Option}
use Rattle.std.proofs.Common.{Some, None, refl, sym, ap, ◌∙◌, arith, ◌++◌, append_assoc}
use Rattle.std.proofs.Common.{append-nil}
use Rattle.std.specs.Prelude.{◌==◌}
use Rattle.packet_entry.specs.declared.packet.Card.{Card}
use Rattle.nfqa_headers.specs.declared.verdict_header.Head.{Head}
use Rattle.nfqa_msgs.specs.declared.request.Request.{Request}
use Rattle.nfqa_msgs.specs.declared.request.Request.TheVariants as request
use Rattle.queue_core.specs.declared.offers.Outcome.{Outcome}
use Rattle.queue_core.specs.declared.offers.Outcome.TheVariants as outcome
use Rattle.queue_core.specs.declared.event.Event.{Event}
use Rattle.queue_core.specs.declared.event.Reply.{Reply}
use Rattle.queue_core.specs.State.{Bound}
use Rattle.queue_core.specs.Step.{Stepped, Gone, Way, step, leaving, batch_edit}
use Rattle.queue_core.specs.Laws.{stays_in}
use Rattle.queue_core.specs.Walk.{either, Shapes, walk_by_shape, stands_first}
use Rattle.histories.specs.declared.entry.Entry.{Entry}
use Rattle.histories.specs.History.{IsStep}
use Rattle.queue_replay.specs.Telling.{Waiting, waiting_of}
use Rattle.queue_replay.specs.Leaving.{visit_of, visits_of, visits_left, leaving_at_arrival}
use Rattle.queue_replay.specs.Leaving.{first_leaving, one_leaving, leaving_after_ask, told_leaving}

-- an arrival that leaves at once
arrival_leaving : (card : Card) (o : Outcome) → stays_in o ≡ 0 →
    leaving_at_arrival card o ≡ visits_of (card ∷ [])
arrival_leaving card (outcome.Taken id) stays = absurd (omega (arith, stays))
arrival_leaving card other stays = refl

-- all that waits
all_leaving : (ws : Waiting) → first_leaving (length ws) ws
    ≡ visits_of (map (λ (l : Card × Way). l.0) (map (λ (w : ℕ × Card). (w.1, Gone)) ws))
all_leaving [] = refl
all_leaving (w ∷ ws) = ap (λ vs. visit_of w.1 ∷ vs) (all_leaving ws)

-- what a batch lets leave keeps its number and visit
shared_leaving : (head : Head) (mark priority : Option ℕ) (ws : Waiting) →
    map (λ (w : ℕ × Card). visit_of w.1) ws
    ≡ visits_of (map (λ (l : Card × Way). l.0)
    (map (λ (v : ℕ × Card). leaving head (batch_edit mark priority) v.1) ws))
shared_leaving head mark priority [] = refl
shared_leaving head mark priority (w ∷ ws) =
    ap (λ vs. visit_of w.1 ∷ vs) (shared_leaving head mark priority ws)

-- where nothing was taken, nothing leaves
nothing_leaving : (asked : Request) (ws : Waiting) → leaving_after_ask asked 0 ws ≡ []
nothing_leaving (request.Config named command params maximum flags mask) ws = refl
nothing_leaving (request.Verdict named None mark payload priority) ws = refl
nothing_leaving (request.Verdict named (Some head) mark payload priority) ws = refl
nothing_leaving (request.Batch named head mark priority) ws = refl

-- nothing is first of nothing
no_first : (taken : ℕ) → first_leaving taken [] ≡ []
no_first zero = refl
no_first (suc taken) = refl

-- where nothing waits
no_leaving : (asked : Request) (taken : ℕ) → leaving_after_ask asked taken [] ≡ []
no_leaving (request.Config named command params maximum flags mask) taken = no_first taken
no_leaving (request.Verdict named None mark payload priority) taken = refl
no_leaving (request.Verdict named (Some head) mark payload priority) taken =
    either (λ (xs : List (ℕ × ℕ)). xs ≡ []) (taken == 0) [] [] (λ is. refl) (λ no. refl)
no_leaving (request.Batch named head mark priority) taken = no_first taken

-- ---- where nothing is added

pub none_added : (vs : List (ℕ × ℕ)) → vs ≡ vs ++ []
none_added vs = sym (append-nil vs)

pub none_first : (vs : List (ℕ × ℕ)) (taken : ℕ) → vs ≡ vs ++ first_leaving taken []
none_first vs taken = none_added vs ∙ sym (ap (λ xs. vs ++ xs) (no_first taken))

pub none_asked : (vs : List (ℕ × ℕ)) (asked : Request) (taken : ℕ) →
    vs ≡ vs ++ leaving_after_ask asked taken []
none_asked vs asked taken = none_added vs ∙ sym (ap (λ xs. vs ++ xs) (no_leaving asked taken))

-- ---- steps

-- a step's reply tells what leaves in it
abbrev IsTold : Option Bound → Event → Stepped → Type 0
IsTold q e s = told_leaving e s.reply (waiting_of q) ≡ visits_left s

-- so it is of each shape of a step
shapes : Shapes IsTold
shapes = record {
  leaves = λ q card bypass room o stays timely. arrival_leaving card o stays;
  counts = λ b last dropped user_dropped card bypass room o stays timely.
      arrival_leaving card o stays;
  joins = λ b card bypass room early had. refl;
  answered = λ q port call asked errno. nothing_leaving asked (waiting_of q);
  ends = λ b port call named a own. all_leaving b.waiting;
  binds = λ port call named a settings. refl;
  sets_up = λ b port call named a settings own. refl;
  decides = λ b port call named head edit card own found. ap one_leaving found;
  shares = λ b port call named head mark priority w ws own is.
      ap (λ (us : Waiting). map (λ (v : ℕ × Card). visit_of v.1) us)
      (stands_first b.waiting (w ∷ ws) head.id is)
      ∙ shared_leaving head mark priority (w ∷ ws);
  none_closed = λ port. refl;
  closes = λ b port. all_leaving b.waiting;
  none_down = λ q device. refl;
  flushes = λ b device. all_leaving b.waiting;
}

-- an entry that is a step tells what leaves in it
pub entry_leaving : (q : Option Bound) (e : Entry) → IsStep q e →
    told_leaving e.event e.reply (waiting_of q) ≡ visits_left (step q e.event)
entry_leaving q e is =
    ap (λ (r : Reply). told_leaving e.event r (waiting_of q)) is.reply
    ∙ walk_by_shape IsTold shapes q e.event

-- ---- so many of the oldest, gone over one by one

module _ (ls ks all : List (ℕ × ℕ)) (more less : ℕ) (ws : Waiting) where
  -- the next of them is told
  pub leaving_next : (vs : Waiting) (w : ℕ × Card) → more ≡ suc less → ws ≡ w ∷ vs →
      ks ≡ ls ++ visit_of w.1 ∷ [] → ls ++ first_leaving more ws ≡ all →
      ks ++ first_leaving less vs ≡ all
  leaving_next vs w count front on so_far =
      ap (λ xs. xs ++ first_leaving less vs) on
      ∙ append_assoc ls (visit_of w.1 ∷ []) (first_leaving less vs)
      ∙ sym (ap (λ n. ls ++ first_leaving n ws) count
      ∙ ap (λ us. ls ++ first_leaving (suc less) us) front) ∙ so_far

  -- no more are asked for
  pub leaving_ends : more ≡ 0 → ls ++ first_leaving more ws ≡ all → ls ≡ all
  leaving_ends none so_far =
      sym (ap (λ n. ls ++ first_leaving n ws) none ∙ append-nil ls) ∙ so_far

  -- or none waits any more
  pub leaving_done : ws ≡ [] → ls ++ first_leaving more ws ≡ all → ls ≡ all
  leaving_done none so_far =
      sym (ap (λ us. ls ++ first_leaving more us) none
      ∙ ap (λ xs. ls ++ xs) (no_first more) ∙ append-nil ls) ∙ so_far
