-- Entries that are gone over, with the order judged so far.
use Rattle.std.proofs.Common.{◌≡◌, ◌<◌, ℕ, List, [], ◌∷◌, Some, None, refl, sym, ap}
use Rattle.std.proofs.Common.{◌∙◌, subst, inl, inr, false, ◌↔◌, true≢false}
use Rattle.std.specs.BTreeMap.{get, is_at}
use Rattle.std.specs.Ordering.{nat_cmp}
use Rattle.std.proofs.lemmas.Bool.{cases_Bool, eq-eqb}
use Rattle.nfqa_msgs.specs.declared.request.Request.{Request}
use Rattle.queue_core.specs.declared.event.Event.{Event}
use Rattle.queue_core.specs.declared.event.Event.TheVariants.{Arrive, Ask, PortClosed, DeviceDown}
use Rattle.histories.specs.Numbers.{queue_count}
use Rattle.histories.specs.declared.entry.Entry.{Entry}
use Rattle.histories.specs.History.{history}
use Rattle.run_parts.specs.Order.{Kind, Answers, early_by, late_by, IsOrdered}
use Rattle.run_parts.specs.Underway.{last_of}
use Rattle.port_audit.specs.declared.dealing.Side.{Side}
use Rattle.port_audit.specs.declared.dealing.MessageKind.{MessageKind}
use Rattle.port_audit.specs.declared.dealing.MessageKind.TheVariants as message
use Rattle.port_audit.specs.declared.order.Ranks.{Ranks}
use Rattle.port_audit.specs.Dealing.{RowMap, row_in, row_at, side, side_cmp, IsKept, AreKept}
use Rattle.port_audit.specs.Dealing.{Takes}
use Rattle.port_audit.specs.Kinds.{kind_of, kinds_of_row, kinds_at}
use Rattle.port_audit.specs.Ranking.{IsOrderedFrom, RankMap, early_in, late_in, early_at, late_at}
use Rattle.port_audit.specs.Ranking.{ranks_then, KeepsRanks, AreInOrder, NextKind, NoneLeft}
use Rattle.port_audit.proofs.RequestEntries.{plea_in, own_plea, other_pleas}
use Rattle.histories.specs.NumberKeys.{at_own, not_of}
use Rattle.histories.specs.QueueHistories.{own_first, other_first}
use Rattle.port_audit.proofs.Ranks.{told_change, none_ordered, IsPlain, plain_on, plain_back}
use Rattle.port_audit.proofs.Ranks.{arrival_plain, closing_plain, falling_plain, AreNext}
use Rattle.port_audit.proofs.Ranks.{unasked_none, asked_on, asked_back, ranks_are, ranks_none}
use Rattle.port_audit.proofs.Rows.{other_port, other_queue, take_kept}

-- ---- one entry

-- whatever comes behind it, an entry is in order where what comes behind is
abbrev pub GoesOn : List ℕ → ℕ → ℕ → (ℕ → List Kind) → Entry → Ranks → (ℕ → List Kind) → Type 0
GoesOn ports low behind told e r rest = (es : List Entry) →
    IsOrderedFrom ports low behind told (e ∷ es)
    ↔ IsOrderedFrom ports r.early r.late rest es

-- an entry can't stand here, whatever comes behind it
abbrev pub CannotGoOn : List ℕ → ℕ → ℕ → (ℕ → List Kind) → Entry → Type 0
CannotGoOn ports low behind told e = (es : List Entry) →
    IsOrderedFrom ports low behind told (e ∷ es) → ⊥

module _ (ports : List ℕ) (low behind : ℕ) (told : ℕ → List Kind) (e : Entry) where
  to_ranks : (k : Kind) (r : Ranks) (rest : ℕ → List Kind) (es : List Entry) →
      AreNext ports low behind k e.event r →
      IsOrderedFrom ports (early_by ports k e.event) (last_of behind (late_by ports k e.event)) rest
      es → IsOrderedFrom ports r.early r.late rest es
  to_ranks k r rest es next is =
      subst (λ n. IsOrderedFrom ports r.early n rest es) (sym next.late)
      (subst (λ n. IsOrderedFrom ports n (last_of behind (late_by ports k e.event)) rest es)
      (sym next.early) is)

  from_ranks : (k : Kind) (r : Ranks) (rest : ℕ → List Kind) (es : List Entry) →
      AreNext ports low behind k e.event r → IsOrderedFrom ports r.early r.late rest es →
      IsOrderedFrom ports (early_by ports k e.event) (last_of behind (late_by ports k e.event)) rest
      es
  from_ranks k r rest es next is =
      subst (λ n. IsOrderedFrom ports n (last_of behind (late_by ports k e.event)) rest es)
      next.early
      (subst (λ n. IsOrderedFrom ports r.early n rest es) next.late is)

  -- it is no request
  plain_goes : (r : Ranks) → IsPlain ports e.event → AreNext ports low behind Answers e.event r →
      GoesOn ports low behind told e r told
  plain_goes r plain next es = (
    λ is. to_ranks Answers r told es next (plain_on ports low behind told e es plain is).2,
    λ is. plain_back ports low behind told e es plain next.low_is next.ascend
        (from_ranks Answers r told es next is),
  )

  plain_cannot : IsPlain ports e.event → ranks_then ports low behind Answers e.event ≡ None →
      CannotGoOn ports low behind told e
  plain_cannot plain none es is =
      let parts = plain_on ports low behind told e es plain is in
      ranks_none ports low behind Answers e.event none parts.0 parts.1

  -- or it is one
  module _ (port call : ℕ) (request : Request) (event : e.event ≡ Ask port call request) where
    unasked_cannot : told port ≡ [] → CannotGoOn ports low behind told e
    unasked_cannot none es is =
        unasked_none ports low behind told e es port (plea_in call request e)
        (own_plea e port call request event) (other_pleas e port call request event) none is

    module _ (k : Kind) (rest : ℕ → List Kind) (first : told port ≡ k ∷ rest port)
        (same : (p : ℕ) → (port ≡ p → ⊥) → told p ≡ rest p) where
      asked_goes : (r : Ranks) → AreNext ports low behind k e.event r →
          GoesOn ports low behind told e r rest
      asked_goes r next es = (
        λ is. to_ranks k r rest es next
            (asked_on ports low behind told e es port (plea_in call request e)
            (own_plea e port call request event) (other_pleas e port call request event) k rest
            first same is).2,
        λ is. asked_back ports low behind told e es port (plea_in call request e)
            (own_plea e port call request event) (other_pleas e port call request event) k rest
            first same next.low_is next.ascend (from_ranks k r rest es next is),
      )

      asked_cannot : ranks_then ports low behind k e.event ≡ None →
          CannotGoOn ports low behind told e
      asked_cannot none es is =
          let parts = asked_on ports low behind told e es port (plea_in call request e)
          (own_plea e port call request event) (other_pleas e port call request event) k rest
          first same is in
          ranks_none ports low behind k e.event none parts.0 parts.1

-- ---- the rows after it

-- the rows of other queues stay as they were
abbrev pub KeepsQueues : ℕ → RowMap MessageKind → RowMap MessageKind → Type 0
KeepsQueues queue old new = (s : Side) → (queue ≡ s.queue → ⊥) → row_at new s ≡ row_at old s

-- what the kind of the next message gives
pub record IsJudged (ports : List ℕ) (low behind : ℕ) (e : Entry) (kind : MessageKind)
    (old new : RowMap MessageKind) : Type 0 where
  pub goes : (r : Ranks) → ranks_then ports low behind (kind_of kind) e.event ≡ Some r →
      GoesOn ports low behind (λ port. kinds_at old port e.queue) e r
      (λ port. kinds_at new port e.queue)
  pub cannot : ranks_then ports low behind (kind_of kind) e.event ≡ None →
      CannotGoOn ports low behind (λ port. kinds_at old port e.queue) e
  pub others : KeepsQueues e.queue old new
  pub kept : AreKept old → AreKept new

module _ (ports : List ℕ) (low behind : ℕ) (e : Entry) (old new : RowMap MessageKind) where
  plain_judged : (kind : MessageKind) → IsPlain ports e.event → kind ≡ message.Answers →
      new ≡ old → IsJudged ports low behind e kind old new
  plain_judged kind plain is same =
      subst (λ k. IsJudged ports low behind e k old new) (sym is)
      (subst (λ (rows : RowMap MessageKind). IsJudged ports low behind e message.Answers old rows)
      (sym same) (record {
        goes = λ r next. plain_goes ports low behind (λ port. kinds_at old port e.queue) e r plain
            (ranks_are ports low behind Answers e.event r next);
        cannot = λ none. plain_cannot ports low behind (λ port. kinds_at old port e.queue) e plain
            none;
        others = λ s other. refl;
        kept = λ k. k;
      }))

  asked_judged : (kind : MessageKind) (port call : ℕ) (request : Request) →
      e.event ≡ Ask port call request → Takes (side port e.queue) kind old new →
      IsJudged ports low behind e kind old new
  asked_judged kind port call request event takes = record {
    goes = λ r next. asked_goes ports low behind (λ p. kinds_at old p e.queue) e port call request
        event (kind_of kind) (λ p. kinds_at new p e.queue) (ap kinds_of_row takes.own) same r
        (ranks_are ports low behind (kind_of kind) e.event r next);
    cannot = λ none. asked_cannot ports low behind (λ p. kinds_at old p e.queue) e port call
        request event (kind_of kind) (λ p. kinds_at new p e.queue) (ap kinds_of_row takes.own)
        same none;
    others = λ s other. ap row_in (takes.others s (other_queue (side port e.queue) s other));
    kept = take_kept (side port e.queue) kind old new takes;
  }
    where
      same : (p : ℕ) → (port ≡ p → ⊥) → kinds_at old p e.queue ≡ kinds_at new p e.queue
      same p differ = sym (ap (λ o. kinds_of_row (row_in o)) (takes.others (side p e.queue)
          (other_port (side port e.queue) (side p e.queue) differ)))

  some_kind : {j k : MessageKind} → Some j ≡ Some k → j ≡ k
  some_kind h = cc

  judged_by : (kind : MessageKind) (v : Event) → e.event ≡ v →
      NextKind e.queue v old new (Some kind) → IsJudged ports low behind e kind old new
  judged_by kind (Arrive card bypass room) event next =
      plain_judged kind (subst (IsPlain ports) (sym event) (arrival_plain ports card bypass room))
      (some_kind next.0) next.1
  judged_by kind (Ask port call request) event next =
      asked_judged kind port call request event next
  judged_by kind (PortClosed port) event next =
      plain_judged kind (subst (IsPlain ports) (sym event) (closing_plain ports port))
      (some_kind next.0) next.1
  judged_by kind (DeviceDown device) event next =
      plain_judged kind (subst (IsPlain ports) (sym event) (falling_plain ports device))
      (some_kind next.0) next.1

  pub judged : (kind : MessageKind) → NextKind e.queue e.event old new (Some kind) →
      IsJudged ports low behind e kind old new
  judged kind next = judged_by kind e.event refl next

  none_by : (v : Event) → e.event ≡ v → NextKind e.queue v old new None →
      CannotGoOn ports low behind (λ port. kinds_at old port e.queue) e
  none_by (Arrive card bypass room) event next = absurd (no_kind next.0)
    where
      no_kind : None ≡ Some message.Answers → ⊥
      no_kind h = absurd (cc)
  none_by (Ask port call request) event next =
      unasked_cannot ports low behind (λ p. kinds_at old p e.queue) e port call request event
      (ap kinds_of_row next)
  none_by (PortClosed port) event next = absurd (no_kind next.0)
    where
      no_kind : None ≡ Some message.Answers → ⊥
      no_kind h = absurd (cc)
  none_by (DeviceDown device) event next = absurd (no_kind next.0)
    where
      no_kind : None ≡ Some message.Answers → ⊥
      no_kind h = absurd (cc)

  pub none_cannot : NextKind e.queue e.event old new None →
      CannotGoOn ports low behind (λ port. kinds_at old port e.queue) e
  none_cannot next = none_by e.event refl next

-- ---- the entries of all queues

-- The order of each queue's history is that of what is left of it, from the ranks that are kept on,
-- with the kinds that are left.
pub record IsSequenced (ports : List ℕ) (first : RowMap MessageKind) (entries rest : List Entry)
    (ranks : RankMap) (rows : RowMap MessageKind) : Type 0 where
  pub each : (queue : ℕ) → queue < queue_count →
      IsOrdered ports (λ port. kinds_at first port queue) (history queue entries)
      ↔ IsOrderedFrom ports (early_at ranks queue) (late_at ranks queue)
      (λ port. kinds_at rows port queue) (history queue rest)
  pub kept : AreKept rows

from_none : (ports : List ℕ) (told : ℕ → List Kind) (h : List Entry) →
    IsOrdered ports told h ↔ IsOrderedFrom ports 0 0 told h
from_none ports told h = (
  λ is. record {
    marks = is.marks;
    entries = is.entries;
    kinds = is.kinds;
    early = is.early;
    late = is.late;
  },
  λ is. record {
    marks = is.marks;
    entries = is.entries;
    kinds = is.kinds;
    early = is.early;
    late = is.late;
  },
)

module _ (ports : List ℕ) (first : RowMap MessageKind) (entries rest others : List Entry)
    (e : Entry) (ranks : RankMap) (old : RowMap MessageKind) (front : rest ≡ e ∷ others)
    (u : IsSequenced ports first entries rest ranks old) where
  own_rest : history e.queue rest ≡ e ∷ history e.queue others
  own_rest = ap (history e.queue) front
      ∙ own_first e.queue e others (eq-eqb e.queue e.queue refl)

  -- the entry can't stand there
  pub sequenced_breaks : e.queue < queue_count →
      CannotGoOn ports (early_at ranks e.queue) (late_at ranks e.queue)
      (λ port. kinds_at old port e.queue) e → AreInOrder ports first entries → ⊥
  sequenced_breaks short cannot all =
      cannot (history e.queue others)
      (subst (λ (gs : List Entry). IsOrderedFrom ports (early_at ranks e.queue)
      (late_at ranks e.queue) (λ port. kinds_at old port e.queue) gs) own_rest
      ((u.each e.queue short).0 (all e.queue short)))

  module _ (r : Ranks) (new : RowMap MessageKind) (next : RankMap)
      (goes : GoesOn ports (early_at ranks e.queue) (late_at ranks e.queue)
      (λ port. kinds_at old port e.queue) e r (λ port. kinds_at new port e.queue))
      (own : get nat_cmp next e.queue ≡ Some r) (keeps : KeepsRanks e.queue ranks next)
      (rows_keep : KeepsQueues e.queue old new) where
    -- what holds of this queue's history, and then of the rest of it
    at_own_queue : e.queue < queue_count →
        IsOrdered ports (λ port. kinds_at first port e.queue) (history e.queue entries)
        ↔ IsOrderedFrom ports (early_at next e.queue) (late_at next e.queue)
        (λ port. kinds_at new port e.queue) (history e.queue others)
    at_own_queue short =
        let behind : IsOrdered ports (λ port. kinds_at first port e.queue)
        (history e.queue entries)
        ↔ IsOrderedFrom ports r.early r.late (λ port. kinds_at new port e.queue)
        (history e.queue others) = (
          λ is. (goes (history e.queue others)).0
              (subst (λ (gs : List Entry). IsOrderedFrom ports (early_at ranks e.queue)
              (late_at ranks e.queue) (λ port. kinds_at old port e.queue) gs) own_rest
              ((u.each e.queue short).0 is)),
          λ is. (u.each e.queue short).1
              (subst (λ (gs : List Entry). IsOrderedFrom ports (early_at ranks e.queue)
              (late_at ranks e.queue) (λ port. kinds_at old port e.queue) gs) (sym own_rest)
              ((goes (history e.queue others)).1 is)),
        ) in
        subst (λ n. IsOrdered ports (λ port. kinds_at first port e.queue)
        (history e.queue entries)
        ↔ IsOrderedFrom ports n (late_at next e.queue) (λ port. kinds_at new port e.queue)
        (history e.queue others)) (sym (ap early_in own))
        (subst (λ n. IsOrdered ports (λ port. kinds_at first port e.queue)
        (history e.queue entries)
        ↔ IsOrderedFrom ports r.early n (λ port. kinds_at new port e.queue)
        (history e.queue others)) (sym (ap late_in own)) behind)

    at_other_queue : (queue : ℕ) → queue < queue_count → is_at (nat_cmp e.queue) queue ≡ false →
        IsOrdered ports (λ port. kinds_at first port queue) (history queue entries)
        ↔ IsOrderedFrom ports (early_at next queue) (late_at next queue)
        (λ port. kinds_at new port queue) (history queue others)
    at_other_queue queue short other =
        let apart : e.queue ≡ queue → ⊥ = λ same. true≢false
        (sym (eq-eqb e.queue queue same) ∙ not_of e.queue queue other) in
        let told : (port : ℕ) → kinds_at old port queue ≡ kinds_at new port queue =
        λ port. sym (ap kinds_of_row (rows_keep (side port queue) apart)) in
        let same : history queue rest ≡ history queue others =
        ap (history queue) front ∙ other_first queue e others (not_of e.queue queue other) in
        let early : early_at ranks queue ≡ early_at next queue =
        sym (ap early_in (keeps queue other)) in
        let late : late_at ranks queue ≡ late_at next queue =
        sym (ap late_in (keeps queue other)) in (
          λ is. told_change ports (early_at next queue) (late_at next queue)
              (λ port. kinds_at old port queue) (λ port. kinds_at new port queue)
              (history queue others) told
              (subst (λ (gs : List Entry). IsOrderedFrom ports (early_at next queue)
              (late_at next queue) (λ port. kinds_at old port queue) gs) same
              (subst (λ n. IsOrderedFrom ports (early_at next queue) n
              (λ port. kinds_at old port queue) (history queue rest)) late
              (subst (λ n. IsOrderedFrom ports n (late_at ranks queue)
              (λ port. kinds_at old port queue) (history queue rest)) early
              ((u.each queue short).0 is)))),
          λ is. (u.each queue short).1
              (subst (λ n. IsOrderedFrom ports n (late_at ranks queue)
              (λ port. kinds_at old port queue) (history queue rest)) (sym early)
              (subst (λ n. IsOrderedFrom ports (early_at next queue) n
              (λ port. kinds_at old port queue) (history queue rest)) (sym late)
              (subst (λ (gs : List Entry). IsOrderedFrom ports (early_at next queue)
              (late_at next queue) (λ port. kinds_at old port queue) gs) (sym same)
              (told_change ports (early_at next queue) (late_at next queue)
              (λ port. kinds_at new port queue) (λ port. kinds_at old port queue)
              (history queue others) (λ port. sym (told port)) is)))),
        )

    pub sequenced_on : (AreKept old → AreKept new) →
        IsSequenced ports first entries others next new
    sequenced_on kept = record {
      each = λ queue short. elim (cases_Bool (is_at (nat_cmp e.queue) queue)) [
        | inl here ↦ subst (λ q. IsOrdered ports (λ port. kinds_at first port q)
            (history q entries)
            ↔ IsOrderedFrom ports (early_at next q) (late_at next q)
            (λ port. kinds_at new port q) (history q others)) (at_own e.queue queue here)
            (at_own_queue (subst (λ q. q < queue_count) (sym (at_own e.queue queue here)) short))
        | inr other ↦ at_other_queue queue short other
      ];
      kept = kept u.kept;
    }

-- at the end just what is left is amiss
pub sequenced_done : (ports : List ℕ) (first : RowMap MessageKind) (entries rest : List Entry)
    (ranks : RankMap) (rows : RowMap MessageKind) → rest ≡ [] →
    IsSequenced ports first entries rest ranks rows →
    NoneLeft rows ↔ AreInOrder ports first entries
sequenced_done ports first entries rest ranks rows none u = (
  λ left queue short. (u.each queue short).1
      (subst (λ (gs : List Entry). IsOrderedFrom ports (early_at ranks queue)
      (late_at ranks queue) (λ port. kinds_at rows port queue) (history queue gs)) (sym none)
      ((none_ordered ports (early_at ranks queue) (late_at ranks queue)
      (λ port. kinds_at rows port queue)).1 (λ port. left port queue short))),
  λ all port queue short. (none_ordered ports (early_at ranks queue) (late_at ranks queue)
      (λ p. kinds_at rows p queue)).0
      (subst (λ (gs : List Entry). IsOrderedFrom ports (early_at ranks queue)
      (late_at ranks queue) (λ p. kinds_at rows p queue) (history queue gs)) none
      ((u.each queue short).0 (all queue short))) port,
)

-- ---- the kinds that notes tell

-- ---- what is left

-- a row that is kept has a kind
pub row_left : (rows : RowMap MessageKind) (s : Side) (row : List MessageKind) → AreKept rows →
    get side_cmp rows s ≡ Some row → kinds_at rows s.port s.queue ≡ [] → ⊥
row_left rows s row kept found none =
    by row (subst IsKept found (kept s)) (sym (ap (λ o. kinds_of_row (row_in o)) found) ∙ none)
  where
    by : (xs : List MessageKind) → IsKept (Some xs) → kinds_of_row xs ≡ [] → ⊥
    by [] is nothing = is
    by (x ∷ xs) is nothing = absurd (cc)
