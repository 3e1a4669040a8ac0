-- The last meeting and the closed plane speak of the same lists.
use Rattle.std.proofs.Common.{◌++◌, ◌+◌, ◌<◌, ◌∙◌, ◌∷◌, ◌≡◌, Bool, List, [], ap, append-nil}
use Rattle.std.proofs.Common.{arith, false, length, refl, subst, sym, true, ℕ}
use Rattle.std.proofs.Math.Nat.{mod-lt}
use Rattle.std.proofs.lemmas.Bool.{eq-eqb}
use Rattle.std.proofs.lemmas.List.Elements.{All-from_recursion}
use Rattle.std.specs.List.{AllByRecursion}
use Rattle.std.specs.Prelude.{if◌then◌else◌, slice_get}
use Rattle.nfqa_msgs.specs.RequestReading.{PayloadFits}
use Rattle.nfqa_msgs.specs.declared.request.Request.{Request}
use Rattle.queue_core.specs.declared.event.Event.{Event}
use Rattle.queue_core.specs.declared.event.Event.TheVariants.{Arrive, Ask, DeviceDown, PortClosed}
use Rattle.histories.specs.History.{history, is_of}
use Rattle.histories.specs.Lengths.{AreShort}
use Rattle.histories.specs.declared.entry.Entry.{Entry}
use Rattle.histories.specs.declared.histories.Histories.{Histories}
use Rattle.histories.specs.Places.{place_for}
use Rattle.inspector_script.specs.Scripts.{ScriptValue}
use Rattle.run_parts.specs.Log.{Note}
use Rattle.nfqa_msgs.specs.NoticeTexts.{fits}
use Rattle.run_parts.specs.Order.{kinds_told}
use Rattle.run_parts.specs.Underway.{Ordered}
use Rattle.live_runs.specs.ClosedPlanes.{IsClosedPlane, IsCovered}
use Rattle.live_runs.specs.Meetings.{ArePorts, IsMeeting}
use Rattle.live_runs.specs.Owners.{IsEventOf, IsFeedersEvent}
use Rattle.live_runs.specs.Passes.{Pass, feeder_number, is_pass, seen_at}
use Rattle.live_runs.specs.Seen.{EachIs, Ours, Seen, entries}
use Rattle.live_runs.specs.Stages.{InOrder, Stage, early_of, late_of}
use Rattle.live_runs.specs.Stands.{Stand}
use Rattle.live_runs.proofs.OwnInWhole.{each_is}
use Rattle.live_runs.proofs.OwnInSegment.{behind_front, entries_length, within}
use Rattle.live_runs.proofs.Marks.{each_history}
use Rattle.live_runs.proofs.OwnEntries.{own_of}

-- where all have seen this, and each entry is some pass's own, there is no more
nothing_more : (count : ℕ → Bool) (all : ℕ → List Seen) (whole seen : List Entry) →
    count feeder_number ≡ true → IsCovered count all whole →
    ((p : ℕ) → count p ≡ true → entries (all p) ≡ seen) → whole ≡ seen
nothing_more count all whole seen some c met =
    at ∙ ap (λ es. seen ++ es) (none (c.rest feeder_number) at) ∙ append-nil seen
  where
    at : whole ≡ seen ++ c.rest feeder_number
    at = c.begins feeder_number some ∙ ap (λ es. es ++ c.rest feeder_number)
        (met feeder_number some)

    none : (rest : List Entry) → whole ≡ seen ++ rest → rest ≡ []
    none [] is = refl
    none (e ∷ rest) is =
        let n : length seen + 0 ≡ length seen = omega arith in
        let o = c.owned.owned (length seen + 0) e
        (ap (λ es. slice_get es (length seen + 0)) is ∙ behind_front seen (e ∷ rest) 0) in
        let less = within (all o.0) (length seen + 0) (Ours e) o.2 in
        let long : length (all o.0) ≡ length seen =
        sym (entries_length (all o.0)) ∙ ap length (met o.0 o.1) in
        absurd (omega (arith, less, long, n))

module _ (workers : ℕ) (script : ScriptValue) (places : ℕ) (stage : Stage)
    (passes : ℕ → Pass) (h : Histories) (notes : ℕ → List Note) (stands : ℕ → Stand)
    (some : 0 < places) (closed : IsClosedPlane script.ports script.mail places passes h)
    (meeting : IsMeeting workers script places stage passes notes stands) where
  same_lists : (k : ℕ) → k < places → closed.whole k ≡ meeting.whole k
  same_lists k below = nothing_more (is_pass script.ports) (seen_at passes k) (closed.whole k)
      (meeting.whole k) refl (closed.covered k below) (λ p is. meeting.met k p below is)

  pub in_order : InOrder workers script places (early_of script.ports stage) (late_of stage)
      closed.whole notes
  in_order =
      let o = meeting.order (λ k below. record {
        owned = λ i e is. (closed.covered k below).owned.owned i e
            (ap (λ es. slice_get es i) (same_lists k below) ∙ is);
      }) in
      record {
        each = λ queue below.
            subst (λ es. Ordered script.ports (early_of script.ports stage) (late_of stage)
            (λ p. kinds_told workers script queue p (notes p)) (history queue es))
            (sym (same_lists (place_for queue places) (mod-lt queue some))) (o.each queue below);
      }

-- ---- payloads

-- what holds of each queue's entries holds of all
each_queue : (Q : Entry → Type 0) (es : List Entry) →
    ((queue : ℕ) → EachIs Q (history queue es)) → EachIs Q es
each_queue Q [] each = tt
each_queue Q (e ∷ es) each = (
  here (is_of e.queue e) (eq-eqb e.queue e.queue refl) (history e.queue es) (each e.queue),
  each_queue Q es (λ queue. rest (is_of queue e) (history queue es) (each queue)),
)
  where
    here : (c : Bool) → c ≡ true → (hs : List Entry) → EachIs Q (if c then e ∷ hs else hs) → Q e
    here true is hs are = are.0
    here false wrong hs are = absurd (cc)

    rest : (c : Bool) (hs : List Entry) → EachIs Q (if c then e ∷ hs else hs) → EachIs Q hs
    rest true hs are = are.1
    rest false hs are = are

abbrev FitsEvent : Event → Type 0
FitsEvent (Arrive card bypass room) = Unit {0}
FitsEvent (Ask port call request) = PayloadFits request
FitsEvent (PortClosed port) = Unit {0}
FitsEvent (DeviceDown device) = Unit {0}

abbrev Fits : Entry → Type 0
Fits e = FitsEvent e.event

own_fits : (port : ℕ) (event : Event) → IsEventOf port event → FitsEvent event
own_fits port (Arrive card bypass room) is = tt
own_fits port (Ask asking call request) is = is.1
own_fits port (PortClosed closed) is = tt
own_fits port (DeviceDown device) is = tt

feeders_fit : (event : Event) → IsFeedersEvent event → FitsEvent event
feeders_fit (Arrive card bypass room) is = tt
feeders_fit (Ask asking call request) wrong = absurd wrong
feeders_fit (PortClosed closed) is = tt
feeders_fit (DeviceDown device) is = tt

all_short : (es : List Entry) → EachIs Fits es → AreShort es
all_short es are = All-from_recursion _ es (by es are)
  where
    one : (event : Event) → FitsEvent event → (port call : ℕ) (request : Request) →
        event ≡ Ask port call request → PayloadFits request
    one event fits port call request is = subst FitsEvent is fits

    by : (es : List Entry) → EachIs Fits es →
        AllByRecursion (λ (e : Entry). (port call : ℕ) (request : Request) →
        e.event ≡ Ask port call request → PayloadFits request) es
    by [] are = tt
    by (e ∷ es) are = (one e.event are.0, by es are.1)

pub payloads_fit : (workers : ℕ) (script : ScriptValue) (places mail : ℕ) (passes : ℕ → Pass)
    (h : Histories) (notes : ℕ → List Note) (stands : ℕ → Stand) → 0 < places →
    IsClosedPlane script.ports mail places passes h →
    ArePorts workers script places passes notes stands → AreShort h.entries
payloads_fit workers script places mail passes h notes stands some closed are =
    all_short h.entries (each_queue Fits h.entries (λ queue.
    let k = place_for queue places in
    subst (EachIs Fits) (sym (closed.same queue))
    (each_history Fits queue (closed.whole k)
    (each_is (is_pass script.ports) (seen_at passes k) (closed.whole k)
    (closed.covered k (mod-lt queue some)) Fits
    (λ p passes_so. own_of workers script places passes notes stands are Fits k p passes_so
    (λ e fed. feeders_fit e.event fed) (λ e i own. own_fits p e.event own))))))
