-- What a fate says of the way by which its packet left.
use Rattle.std.proofs.Common.{◌≡◌, ◌≢◌, ℕ, List, Option, Some, None, Bool, true, false}
use Rattle.std.proofs.Common.{refl, sym, ap, ◌∙◌, subst, length, ◌+◌}
use Rattle.std.specs.Prelude.{Contains}
use Rattle.packet_entry.specs.declared.packet.Card.{Card}
use Rattle.hook_chain.specs.Rules.{RuleTables}
use Rattle.hook_chain.specs.declared.chain.Next.{Next}
use Rattle.hook_chain.specs.declared.chain.Next.TheVariants.{Released, To}
use Rattle.hook_chain.specs.declared.chain.Decision.TheVariants as decision
use Rattle.nfqa_msgs.specs.declared.request.Request.{Request}
use Rattle.nfqa_msgs.specs.declared.request.Request.TheVariants.{Config, Verdict, Batch}
use Rattle.queue_core.specs.declared.event.Event.{Event}
use Rattle.queue_core.specs.declared.event.Event.TheVariants.{Arrive, Ask, PortClosed, DeviceDown}
use Rattle.queue_core.specs.declared.event.Reply.TheVariants.{Arrived}
use Rattle.queue_core.specs.declared.offers.Outcome.{Outcome}
use Rattle.queue_core.specs.declared.offers.Outcome.TheVariants as outcome
use Rattle.queue_core.specs.State.{Bound}
use Rattle.queue_core.specs.Step.{Way, Gone, Open, Decided, Stepped, step, config, ConfigAsk}
use Rattle.queue_core.specs.Step.{port_closed, device_down}
use Rattle.queue_core.specs.Laws.{AllAreGone, Tells as TellsCount, way_by}
use Rattle.histories.specs.declared.entry.Entry.{Entry}
use Rattle.histories.specs.History.{history, replay, IsStep}
use Rattle.hook_chain.specs.Route.{next}
use Rattle.histories.specs.Journeys.{asked_by}
use Rattle.histories.specs.Endings.{is_over, is_nothing}
use Rattle.fate_ledger.specs.declared.happening.Happening.{Happening}
use Rattle.fate_ledger.specs.declared.fate.Fate.{Fate}
use Rattle.fate_ledger.specs.declared.fate.Fate.TheVariants as fate
use Rattle.fate_ledger.specs.Fates.{fate_at_arrival, fate_by_verdict, fate_by_request}
use Rattle.fate_ledger.specs.Ledger.{is_release}
use Rattle.fate_ledger.specs.Laws.{step_after, Leaves, Tells, IsSaidBy, route_by}
use Rattle.fate_ledger.proofs.LastArrivals.{leaves_by}

-- what the step says of those that leave: the laws of the queue that are used here
pub record Laws : Type 0 where
  pub counts : (q : Option Bound) (e : Event) →
      TellsCount e (step q e).reply (length (step q e).left)
  pub config_gone : (q : Option Bound) (port : ℕ) (ask : ConfigAsk) → AllAreGone (config q port ask)
  pub port_gone : (q : Option Bound) → AllAreGone (port_closed q)
  pub device_gone : (q : Option Bound) (device : ℕ) → AllAreGone (device_down q device)
  pub arrival : (q : Option Bound) (card : Card) (bypass room : Bool) (o : Outcome)
      (l : Card × Way) → (step q (Arrive card bypass room)).reply ≡ Arrived o →
      Contains (step q (Arrive card bypass room)).left l → l ≡ (card, way_by o)

-- a release is the fate of what was let through or allowed on, and any other fate of what was
-- destroyed; what was sent to another queue arrives there
abbrev pub Agrees : Fate → Way → Type 0
Agrees f Gone = is_release f ≡ false
Agrees f Open = is_release f ≡ true
Agrees f (Decided decision.Drop) = is_release f ≡ false
Agrees f (Decided (decision.Queue number bypass)) = Unit {0}
Agrees f (Decided other) = is_release f ≡ true

gone_agrees : (f : Fate) (card : Card) (way : Way) (s : Stepped) → is_release f ≡ false →
    AllAreGone s → Leaves s card way → Agrees f way
gone_agrees f card way s not_ gone leaves =
    let is : (card, way) ≡ _ = sym leaves.2 in
    let one = gone leaves.0 (card, way) leaves.1 in
    subst (Agrees f) (sym one ∙ ap (λ (l : Card × Way). l.1) leaves.2) not_

verdict_agrees : (way : Way) → Agrees (fate_by_verdict way) way
verdict_agrees Gone = refl
verdict_agrees Open = refl
verdict_agrees (Decided decision.Drop) = refl
verdict_agrees (Decided decision.Accept) = refl
verdict_agrees (Decided decision.Repeat) = refl
verdict_agrees (Decided decision.Stop) = refl
verdict_agrees (Decided (decision.Queue number bypass)) = tt

outcome_agrees : (o : Outcome) → fate_at_arrival o ≢ fate.Waiting →
    Agrees (fate_at_arrival o) (way_by o)
outcome_agrees (outcome.Taken id) not_ = absurd (not_ refl)
outcome_agrees outcome.Overflow not_ = refl
outcome_agrees outcome.OverflowOpen not_ = refl
outcome_agrees (outcome.UserFull id) not_ = refl
outcome_agrees (outcome.UserFullOpen id) not_ = refl
outcome_agrees outcome.NoQueue not_ = refl
outcome_agrees outcome.Bypassed not_ = refl
outcome_agrees outcome.CopyNone not_ = refl
outcome_agrees outcome.Loop not_ = refl

pub record LeavesSo (s : Stepped) (h : Happening) : Type 0 where
  pub way : Way
  pub leaves : Leaves s h.card way
  pub agrees : Agrees h.fate way

module _ (laws : Laws) (before : List Entry) (e : Entry) (h : Happening)
    (is : IsStep (replay (history e.queue before)) e) where
  abbrev q : Option Bound
  q = replay (history e.queue before)

  by_request : (port call : ℕ) (asked : Request) → e.event ≡ Ask port call asked → (way : Way) →
      Leaves (step_after before e) h.card way → h.fate ≡ fate_by_request asked way →
      Agrees h.fate way
  by_request port call (Config queue command params maxlen flags mask) ev way leaves same =
      gone_agrees h.fate h.card way
      (step q (Ask port call (Config queue command params maxlen flags mask)))
      (ap is_release same)
      (laws.config_gone q port (record {
        command = command;
        params = params;
        maximum = maxlen;
        flags = flags;
        mask = mask;
      }))
      (subst (λ event. Leaves (step q event) h.card way) ev leaves)
  by_request port call (Verdict queue head mark payload priority) ev way leaves same =
      subst (λ f. Agrees f way) (sym same) (verdict_agrees way)
  by_request port call (Batch queue head mark priority) ev way leaves same =
      subst (λ f. Agrees f way) (sym same) (verdict_agrees way)

  pub leaves_so : (event : Event) → e.event ≡ event →
      Tells event e.reply (step_after before e) h.card h.fate → (h.fate ≡ fate.Waiting → ⊥) →
      LeavesSo (step_after before e) h
  leaves_so (Ask port call asked) ev tells not_ = record {
    way = tells.0;
    leaves = tells.1;
    agrees = by_request port call asked ev tells.0 tells.1 tells.2;
  }
  leaves_so (PortClosed port) ev tells not_ = record {
    way = tells.0;
    leaves = tells.1;
    agrees = gone_agrees h.fate h.card tells.0 (step q (PortClosed port))
        (ap is_release tells.2) (laws.port_gone q)
        (subst (λ event. Leaves (step q event) h.card tells.0) ev tells.1);
  }
  leaves_so (DeviceDown device) ev tells not_ = record {
    way = tells.0;
    leaves = tells.1;
    agrees = gone_agrees h.fate h.card tells.0 (step q (DeviceDown device))
        (ap is_release tells.2) (laws.device_gone q device)
        (subst (λ event. Leaves (step q event) h.card tells.0) ev tells.1);
  }
  leaves_so (Arrive card bypass room) ev tells not_ =
      let l = leaves_by laws.counts before e h is (Arrive card bypass room) ev tells not_ in
      let there : Leaves (step q (Arrive card bypass room)) h.card l.0 =
      subst (λ event. Leaves (step q event) h.card l.0) ev l.1 in
      let reply : (step q (Arrive card bypass room)).reply ≡ Arrived tells.1.0 =
      ap (λ event. (step q event).reply) (sym ev) ∙ sym is.reply ∙ tells.1.1 in
      let own : (h.card, l.0) ≡ (card, way_by tells.1.0) =
      laws.arrival q card bypass room tells.1.0 (h.card, l.0) reply there in
      record {
        way = l.0;
        leaves = l.1;
        agrees = subst (λ f. Agrees f l.0) (sym tells.1.2)
            (subst (Agrees (fate_at_arrival tells.1.0))
            (sym (ap (λ (x : Card × Way). x.1) own))
            (outcome_agrees tells.1.0 (λ waiting. not_ (tells.1.2 ∙ waiting))));
      }

-- ---- and of where the tables send it

over_route : (route : Next) (card : Card) (visit : ℕ) →
    is_nothing (asked_by route card visit) ≡ true → route ≡ Released
over_route Released card visit over = refl
over_route (To queue bypass table) card visit over =
    let wrong : false ≡ true = over in absurd (cc)

let_go : (f : Fate) (route : Next) → is_release f ≡ true → route ≡ Released →
    IsSaidBy f (Some route)
let_go f route is released = record {
  released = λ _. ap (λ (r : Next). Some r) released;
  destroyed = λ not_. let wrong : true ≡ false = sym is ∙ not_ in absurd (cc);
}

ended : (f : Fate) → is_release f ≡ false → IsSaidBy f None
ended f not_ = record {
  released = λ is. let wrong : true ≡ false = sym is ∙ not_ in absurd (cc);
  destroyed = λ _. refl;
}

module _ (tables : RuleTables) (key : ℕ) where
  pub is_said : (f : Fate) (card : Card) (way : Way) → Agrees f way →
      is_over tables key (card, way) ≡ true → IsSaidBy f (route_by tables key (card, way))
  is_said f card Gone agrees over = ended f agrees
  is_said f card Open agrees over =
      let_go f (next tables key card (card.table + 1)) agrees
      (over_route (next tables key card (card.table + 1)) card (card.visit + 1) over)
  is_said f card (Decided decision.Drop) agrees over = ended f agrees
  is_said f card (Decided decision.Accept) agrees over =
      let_go f (next tables key card (card.table + 1)) agrees
      (over_route (next tables key card (card.table + 1)) card (card.visit + 1) over)
  is_said f card (Decided decision.Repeat) agrees over =
      let_go f (next tables key card card.table) agrees
      (over_route (next tables key card card.table) card (card.visit + 1) over)
  is_said f card (Decided decision.Stop) agrees over = let_go f Released agrees refl
  is_said f card (Decided (decision.Queue number bypass)) agrees over =
      let wrong : false ≡ true = over in absurd (cc)
