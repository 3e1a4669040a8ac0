-- What an entry's reply tells of its step: which packets leave, and what waits afterwards.
use Rattle.std.proofs.Common.{◌≡◌, ℕ, [], ◌∷◌, length, map, drop, Option}
use Rattle.std.proofs.Common.{Some, None, refl, ap, ◌∙◌, arith}
use Rattle.packet_entry.specs.declared.packet.Card.{Card}
use Rattle.packet_entry.specs.Card.{edited}
use Rattle.nfqa_headers.specs.declared.verdict_header.Head.{Head}
use Rattle.nfqa_msgs.specs.declared.request.Request.{Request}
use Rattle.nfqa_msgs.specs.declared.request.Request.TheVariants as request
use Rattle.queue_core.specs.declared.offers.Outcome.{Outcome}
use Rattle.queue_core.specs.declared.offers.Outcome.TheVariants as outcome
use Rattle.queue_core.specs.declared.event.Event.{Event}
use Rattle.queue_core.specs.declared.event.Event.TheVariants as event
use Rattle.queue_core.specs.declared.event.Reply.{Reply}
use Rattle.queue_core.specs.State.{Bound}
use Rattle.queue_core.specs.Step.{Stepped, Gone, step, unchanged, leaving, batch_edit}
use Rattle.queue_core.specs.Laws.{stays_in}
use Rattle.queue_core.specs.Walk.{Shapes, walk_by_shape, stands_first}
use Rattle.histories.specs.declared.entry.Entry.{Entry}
use Rattle.histories.specs.History.{IsStep}
use Rattle.fate_ledger.specs.declared.fate.Fate.{Fate}
use Rattle.fate_ledger.specs.Fates.{happens, departing, fate_by_verdict}
use Rattle.fate_ledger.specs.Following.{Waiting, waiting_of, told, waiting_after, first_leave}
use Rattle.fate_ledger.specs.Following.{waiting_after_arrival, happening, how_at, fate_of}

-- an arrival that leaves at once lets wait what waited
as_before : (card : Card) (o : Outcome) (ws : Waiting) → stays_in o ≡ 0 →
    waiting_after_arrival card o ws ≡ ws
as_before card (outcome.Taken id) ws stays = absurd (omega (arith, stays))
as_before card other ws stays = refl

none_wait : (ws : Waiting) → drop (length ws) ws ≡ []
none_wait [] = refl
none_wait (w ∷ ws) = none_wait ws

module _ (queue at : ℕ) where
  -- all leave
  all_leave : (f : Fate) (ws : Waiting) →
      first_leave (how_at queue at f) None None (length ws) ws
      ≡ departing queue at (λ way. f) (map (λ (w : ℕ × Card). (w.1, Gone)) ws)
  all_leave f [] = refl
  all_leave f (w ∷ ws) = ap (λ hs. happening (how_at queue at f) w.1 ∷ hs) (all_leave f ws)

  -- a share leaves
  each_leaves : (head : Head) (mark priority : Option ℕ) (ws : Waiting) →
      map (λ (w : ℕ × Card). happening (how_at queue at (fate_of head.verdict))
      (edited w.1 mark None priority)) ws
      ≡ departing queue at fate_by_verdict
      (map (λ (v : ℕ × Card). leaving head (batch_edit mark priority) v.1) ws)
  each_leaves head mark priority [] = refl
  each_leaves head mark priority (w ∷ ws) =
      ap (λ hs. happening (how_at queue at (fate_of head.verdict))
      (edited w.1 mark None priority) ∷ hs) (each_leaves head mark priority ws)

  -- a step's reply tells what leaves in it, and what waits afterwards
  abbrev IsTold : Option Bound → Event → Stepped → Type 0
  IsTold q e s =
      (told queue at e s.reply (waiting_of q) ≡ happens queue at e s)
      × (waiting_after e s.reply (waiting_of q) ≡ waiting_of s.state)

  answered : (q : Option Bound) (port call : ℕ) (asked : Request) (errno : ℕ) →
      IsTold q (event.Ask port call asked) (unchanged q errno)
  answered q port call (request.Config named command params maximum flags mask) errno = (refl, refl)
  answered q port call (request.Verdict named None mark payload priority) errno = (refl, refl)
  answered q port call (request.Verdict named (Some head) mark payload priority) errno =
      (refl, refl)
  answered q port call (request.Batch named None mark priority) errno = (refl, refl)
  answered q port call (request.Batch named (Some head) mark priority) errno = (refl, refl)

  shapes : Shapes IsTold
  shapes = record {
    leaves = λ q card bypass room o stays timely. (refl, as_before card o (waiting_of q) stays);
    counts = λ b last dropped user_dropped card bypass room o stays timely.
        (refl, as_before card o b.waiting stays);
    joins = λ b card bypass room early had. (refl, refl);
    answered = answered;
    ends = λ b port call named a own. (all_leave _ b.waiting, none_wait b.waiting);
    binds = λ port call named a settings. (refl, refl);
    sets_up = λ b port call named a settings own. (refl, refl);
    decides = λ b port call named head edit card own found. (rw found refl, refl);
    shares = λ b port call named head mark priority w ws own is. (
      ap (λ vs. map (λ (v : ℕ × Card). happening (how_at queue at (fate_of head.verdict))
          (edited v.1 mark None priority)) vs) (stands_first b.waiting (w ∷ ws) head.id is)
          ∙ each_leaves head mark priority (w ∷ ws),
      refl,
    );
    none_closed = λ port. (refl, refl);
    closes = λ b port. (all_leave _ b.waiting, none_wait b.waiting);
    none_down = λ q device. (refl, refl);
    flushes = λ b device. (all_leave _ b.waiting, none_wait b.waiting);
  }

-- an entry that is a step tells what it is an event of, and what waits afterwards
pub entry_tells : (at : ℕ) (q : Option Bound) (e : Entry) → IsStep q e →
    (told e.queue at e.event e.reply (waiting_of q) ≡ happens e.queue at e.event (step q e.event))
    × (waiting_after e.event e.reply (waiting_of q) ≡ waiting_of (step q e.event).state)
entry_tells at q e is = (
  ap (λ (r : Reply). told e.queue at e.event r (waiting_of q)) is.reply
      ∙ (walk_by_shape _ (shapes e.queue at) q e.event).0,
  ap (λ (r : Reply). waiting_after e.event r (waiting_of q)) is.reply
      ∙ (walk_by_shape _ (shapes e.queue at) q e.event).1,
)
