-- What an entry rests on goes on to be before it, as histories go on. So histories have one order
-- exactly where they have times.
use Rattle.std.proofs.Common.{◌≡◌, ℕ, zero, suc, inl, inr, Bool, true, false, List, []}
use Rattle.std.proofs.Common.{◌∷◌, ◌++◌, refl, sym, ap, subst, ◌∙◌, take, ◌==◌}
use Rattle.std.proofs.Common.{append_assoc, if◌then◌else◌, Option}
use mathlib.Core.List.{IsPrefix}
use Rattle.packet_entry.specs.declared.packet.Card.{Card}
use Rattle.queue_core.specs.State.{Bound}
use Rattle.queue_core.specs.Step.{step}
use Rattle.queue_core.specs.Laws.{leaving_in}
use Rattle.queue_core.specs.declared.event.Event.{Event}
use Rattle.queue_core.specs.declared.event.Event.TheVariants.{Arrive, Ask, PortClosed, DeviceDown}
use Rattle.histories.specs.declared.entry.Entry.{Entry}
use Rattle.histories.specs.declared.log.Did.{Did}
use Rattle.histories.specs.declared.log.Did.TheVariants.{Received, Sent, Closed}
use Rattle.histories.specs.declared.log.PortLog.{PortLog}
use Rattle.histories.specs.declared.histories.Histories.{Histories}
use Rattle.histories.specs.History.{history, replay_from}
use Rattle.histories.specs.Stays.{departures, departures_from}
use Rattle.total_order.specs.Orders.{part, GoesOn, IsOrder, untimed}
use Rattle.total_order.specs.Steps.{Step, Has, HasCome, AreTaken, IsCausedAs, taken, taken_by}
use Rattle.total_order.specs.Steps.{log_of}
use Rattle.total_order.specs.TotalOrder.{queue_of, entries, IsCaused, InLogOrder, IsTotalOrder}
use Rattle.total_order.specs.TotalOrder.{HasTotalOrder, HasClocks}
use Rattle.total_order.proofs.Parts.{prefix_mapped}
use Rattle.total_order.proofs.Sort.{sorted}
use Rattle.total_order.proofs.OrderByClocks.{order_by_clocks}
use Rattle.total_order.proofs.ClocksByOrder.{numbered, untimed_numbered, clocks_by_order}

-- ---- packets that left, and packets that were taken

has_front : (number visit : ℕ) (cs ds : List Card) → Has number visit cs →
    Has number visit (cs ++ ds)
has_front number visit [] ds h = absurd h
has_front number visit (c ∷ cs) ds (inl e) = inl e
has_front number visit (c ∷ cs) ds (inr h) = inr (has_front number visit cs ds h)

departed : (q : Option Bound) (es fs : List Entry) →
    departures_from q (es ++ fs) ≡ departures_from q es ++ departures_from (replay_from q es) fs
departed q [] fs = refl
departed q (e ∷ es) fs =
    ap (λ cs. leaving_in (step q e.event) ++ cs) (departed (step q e.event).state es fs)
    ∙ sym (append_assoc (leaving_in (step q e.event)) (departures_from (step q e.event).state es)
    (departures_from (replay_from (step q e.event).state es) fs))

taken_on : (es fs : List Entry) → taken (es ++ fs) ≡ taken es ++ taken fs
taken_on [] fs = refl
taken_on (e ∷ es) fs = ap (λ cs. taken_by e.event e.reply ++ cs) (taken_on es fs)
    ∙ sym (append_assoc (taken_by e.event e.reply) (taken es) (taken fs))

pub left_on : (number visit : ℕ) (es fs : List Entry) → IsPrefix es fs →
    Has number visit (departures es) → Has number visit (departures fs)
left_on number visit es fs p h =
    subst (λ zs. Has number visit (departures zs)) p.1
    (subst (λ cs. Has number visit cs) (sym (departed _ es p.0))
    (has_front number visit (departures es) (departures_from (replay_from _ es) p.0) h))

pub taken_in : (number visit : ℕ) (es fs : List Entry) → IsPrefix es fs →
    Has number visit (taken es) → Has number visit (taken fs)
taken_in number visit es fs p h =
    subst (λ zs. Has number visit (taken zs)) p.1
    (subst (λ cs. Has number visit cs) (sym (taken_on es p.0))
    (has_front number visit (taken es) (taken p.0) h))

-- ---- events

-- each queue's history goes on
abbrev pub GoOn : List Entry → List Entry → Type 0
GoOn es fs = (queue : ℕ) → IsPrefix (history queue es) (history queue fs)

pub come_on : (number visit : ℕ) (es fs : List Entry) → GoOn es fs → HasCome number visit es →
    HasCome number visit fs
come_on number zero es fs on h = tt
come_on number (suc zero) es fs on h = tt
come_on number (suc (suc visit)) es fs on h = record {
  queue = h.queue;
  left = left_on number (suc visit) (history h.queue es) (history h.queue fs) (on h.queue) h.left;
}

pub taken_all_on : (ds : List Did) (es fs : List Entry) → GoOn es fs → AreTaken ds es →
    AreTaken ds fs
taken_all_on [] es fs on h = tt
taken_all_on (Received queue number visit ∷ ds) es fs on h = (
  taken_in number visit (history queue es) (history queue fs) (on queue) h.0,
  taken_all_on ds es fs on h.1,
)
taken_all_on (Sent call ask answer ∷ ds) es fs on h = taken_all_on ds es fs on h
taken_all_on (Closed ∷ ds) es fs on h = taken_all_on ds es fs on h

caused_on : (logs : List PortLog) (at : ℕ) (event : Event) (es fs : List Entry) → GoOn es fs →
    IsCausedAs logs es at event → IsCausedAs logs fs at event
caused_on logs at (Arrive card bypass room) es fs on h =
    come_on card.number card.visit es fs on h
caused_on logs at (Ask port call request) es fs on h = record {
  sent = h.sent;
  heard = taken_all_on (take at (log_of port logs)) es fs on h.heard;
}
caused_on logs at (PortClosed port) es fs on h = taken_all_on (log_of port logs) es fs on h
caused_on logs at (DeviceDown device) es fs on h = tt

-- ---- orders of steps

-- a queue's history is the part of its steps
part_entries : (queue : ℕ) (ss : List Step) →
    history queue (entries ss) ≡ entries (part queue_of queue ss)
part_entries queue [] = refl
part_entries queue (s ∷ ss) = by (part_entries queue ss) (s.entry.queue == queue)
  where
    by : history queue (entries ss) ≡ entries (part queue_of queue ss) → (b : Bool) →
        (if b then s.entry ∷ history queue (entries ss) else history queue (entries ss))
        ≡ entries (if b then s ∷ part queue_of queue ss else part queue_of queue ss)
    by rest true = ap (λ zs. s.entry ∷ zs) rest
    by rest false = rest

pub persists : (logs : List PortLog) (s : Step) (before after : List Step) →
    GoesOn queue_of before after → IsCaused logs before s → IsCaused logs after s
persists logs s before after on h =
    caused_on logs s.at s.entry.event (entries before) (entries after)
    (λ queue. subst (λ zs. IsPrefix zs (history queue (entries after)))
    (sym (part_entries queue before))
    (subst (λ zs. IsPrefix (entries (part queue_of queue before)) zs)
    (sym (part_entries queue after))
    (prefix_mapped (λ (t : Step). t.entry) (part queue_of queue before)
    (part queue_of queue after) (on queue)))) h

-- a total order is an order of its own steps
pub order_in : (h : Histories) (all : List Step) → IsTotalOrder h all →
    IsOrder queue_of (IsCaused h.logs) InLogOrder all all
order_in h all order =
    record { same = λ queue. refl; caused = order.caused; kept = order.kept }

-- and an order of all steps is total
pub total_in : (h : Histories) (steps all : List Step) →
    ((queue : ℕ) → history queue (entries steps) ≡ history queue h.entries) →
    IsOrder queue_of (IsCaused h.logs) InLogOrder steps all → IsTotalOrder h all
total_in h steps all same order = record {
  same = λ queue. part_entries queue all ∙ ap (λ zs. entries zs) (order.same queue)
      ∙ sym (part_entries queue steps) ∙ same queue;
  caused = order.caused;
  kept = order.kept;
}

-- ---- clocks

pub order_of : (h : Histories) → HasClocks h → HasTotalOrder h
order_of h clocks = (
  untimed (sorted clocks.0),
  total_in h (untimed clocks.0) (untimed (sorted clocks.0)) clocks.1.same
      (order_by_clocks queue_of (IsCaused h.logs) InLogOrder (persists h.logs) clocks.0
      clocks.1.times),
)

pub clocks_of : (h : Histories) → HasTotalOrder h → HasClocks h
clocks_of h order = (
  numbered 0 order.0,
  record {
    same = λ queue. ap (λ zs. history queue (entries zs)) (untimed_numbered 0 order.0)
        ∙ order.1.same queue;
    times = clocks_by_order queue_of (IsCaused h.logs) InLogOrder order.0 order.1.caused
        order.1.kept;
  },
)
