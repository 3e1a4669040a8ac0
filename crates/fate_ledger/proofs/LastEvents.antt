-- The last event of a packet, and the entry that it is of.
use Rattle.std.proofs.Common.{◌≡◌, ◌≢◌, ℕ, zero, suc, ◌+◌, ◌<◌, ◌≤◌, List, [], ◌∷◌, ◌++◌, length}
use Rattle.std.proofs.Common.{map}
use Rattle.std.proofs.Common.{Option, Some, None, Bool, true, false, cond, refl, sym, ap, ◌∙◌}
use Rattle.std.proofs.Common.{arith}
use Rattle.std.proofs.Common.{inl, inr, ◌⊎◌, append_assoc, subst}
use Rattle.std.specs.Prelude.{◌==◌, ◌&&◌, slice_get, Contains}
use Rattle.std.specs.List.{AllByRecursion}
use Rattle.std.proofs.lemmas.Bool.{cases_Bool, eq-eqb, and_parts, leb-true, leb-false, le-leb}
use Rattle.std.proofs.lemmas.Bool.{eqb-true}
use Rattle.std.proofs.lemmas.List.{append-nil}
use Rattle.std.proofs.lemmas.List.Elements.{All-from_recursion, Contains-append_right}
use Rattle.packet_entry.specs.declared.packet.Card.{Card}
use Rattle.pcap_io.specs.declared.capture.Frame.{Frame}
use Rattle.histories.specs.declared.entry.Entry.{Entry}
use Rattle.histories.specs.declared.histories.Histories.{Histories}
use Rattle.histories.specs.declared.histories.Lost.{Lost}
use Rattle.histories.specs.History.{history, replay, IsStep, AreLegal}
use Rattle.histories.specs.QueueHistories.{step_at}
use Rattle.queue_core.specs.declared.event.Event.{Event}
use Rattle.queue_core.specs.declared.event.Event.TheVariants.{Arrive, Ask, PortClosed, DeviceDown}
use Rattle.queue_core.specs.declared.event.Reply.{Reply}
use Rattle.queue_core.specs.declared.event.Reply.TheVariants.{Arrived, Answer, Flushed}
use Rattle.queue_core.specs.declared.offers.Outcome.{Outcome}
use Rattle.queue_core.specs.State.{Bound}
use Rattle.queue_core.specs.Step.{Way, step}
use Rattle.queue_core.specs.Laws.{TellsArrival, Tells as CountsLeft}
use Rattle.fate_ledger.specs.declared.happening.Happening.{Happening}
use Rattle.fate_ledger.specs.declared.fate.Fate.{Fate}
use Rattle.fate_ledger.specs.declared.fate.Fate.TheVariants as fate
use Rattle.fate_ledger.specs.declared.fate.FateLine.{FateLine}
use Rattle.fate_ledger.specs.Laws.{IsLastEvent, IsEventOf, IsLineOf, Tells, Leaves, step_after}
use Rattle.fate_ledger.specs.Fates.{departing, happens, fate_by_request, fate_by_reply}
use Rattle.fate_ledger.specs.Fates.{last_of, later_of, is_later, happenings, happenings_after}
use Rattle.fate_ledger.specs.Fates.{happens_after, fates_from, fates, fate_line, is_lost}

-- ---- the last of a list of events

module _ (number : ℕ) where
  abbrev Before : ℕ → Happening → Type 0
  Before visit h = h.card.number ≡ number → h.card.visit ≤ visit

  abbrev After : ℕ → Happening → Type 0
  After visit h = h.card.number ≡ number → h.card.visit < visit

  -- the event stands among these, and is the last of its packet
  pub record IsLastIn (hs : List Happening) (h : Happening) : Type 0 where
    pub front : List Happening
    pub back : List Happening
    pub split : hs ≡ front ++ h ∷ back
    pub number_is : h.card.number ≡ number
    pub greatest : AllByRecursion (Before h.card.visit) front
    pub latest : AllByRecursion (After h.card.visit) back

  abbrev NotLater : Option Happening → Happening → Type 0
  NotLater kept h = h.card.number ≡ number → is_later kept h ≡ false

  pub record Stays (hs : List Happening) (kept : Option Happening) : Type 0 where
    pub same : last_of number hs kept ≡ kept
    pub none_later : AllByRecursion (NotLater kept) hs

  pub record Comes (hs : List Happening) (kept : Option Happening) : Type 0 where
    pub last : Happening
    pub is : last_of number hs kept ≡ Some last
    pub among : IsLastIn hs last
    pub later : is_later kept last ≡ true

  smaller : (g : Happening) (hs : List Happening) → AllByRecursion (NotLater (Some g)) hs →
      AllByRecursion (After g.card.visit) hs
  smaller g [] all = tt
  smaller g (h ∷ hs) all = (
    λ own. leb-false g.card.visit h.card.visit (all.0 own),
    smaller g hs all.1,
  )

  later_still : (kept : Option Happening) (g h : Happening) → is_later kept g ≡ true →
      g.card.visit ≤ h.card.visit → is_later kept h ≡ true
  later_still None g h a b = refl
  later_still (Some k) g h a b =
      le-leb k.card.visit h.card.visit (omega (arith, leb-true k.card.visit g.card.visit a, b))

  earlier : (kept : Option Happening) (g h : Happening) → is_later kept g ≡ false →
      is_later kept h ≡ true → g.card.visit ≤ h.card.visit
  earlier None g h a b = absurd (cc)
  earlier (Some k) g h a b = omega (
    arith,
    leb-false k.card.visit g.card.visit a,
    leb-true k.card.visit h.card.visit b,
  )

  abbrev Either : List Happening → Option Happening → Type 0
  Either hs kept = Stays hs kept ⊎ Comes hs kept

  -- an event that is kept
  kept_on : (g : Happening) (hs : List Happening) (kept : Option Happening) →
      g.card.number ≡ number → is_later kept g ≡ true →
      later_of number kept g ≡ Some g → Either hs (Some g) → Either (g ∷ hs) kept
  kept_on g hs kept own is_later_ is (inl stays) = inr (record {
    last = g;
    is = ap (last_of number hs) is ∙ stays.same;
    among = record {
      front = [];
      back = hs;
      split = refl;
      number_is = own;
      greatest = tt;
      latest = smaller g hs stays.none_later;
    };
    later = is_later_;
  })
  kept_on g hs kept own is_later_ is (inr comes) =
      let order : g.card.visit ≤ comes.last.card.visit =
      leb-true g.card.visit comes.last.card.visit comes.later in
      inr (record {
        last = comes.last;
        is = ap (last_of number hs) is ∙ comes.is;
        among = record {
          front = g ∷ comes.among.front;
          back = comes.among.back;
          split = ap (λ gs. g ∷ gs) comes.among.split;
          number_is = comes.among.number_is;
          greatest = (λ _. order, comes.among.greatest);
          latest = comes.among.latest;
        };
        later = later_still kept g comes.last is_later_ order;
      })

  -- an event that is passed over
  passed_on : (g : Happening) (hs : List Happening) (kept : Option Happening) →
      NotLater kept g → later_of number kept g ≡ kept → Either hs kept → Either (g ∷ hs) kept
  passed_on g hs kept not_later is (inl stays) = inl (record {
    same = ap (last_of number hs) is ∙ stays.same;
    none_later = (not_later, stays.none_later);
  })
  passed_on g hs kept not_later is (inr comes) = inr (record {
    last = comes.last;
    is = ap (last_of number hs) is ∙ comes.is;
    among = record {
      front = g ∷ comes.among.front;
      back = comes.among.back;
      split = ap (λ gs. g ∷ gs) comes.among.split;
      number_is = comes.among.number_is;
      greatest = (
        λ own. earlier kept g comes.last (not_later own) comes.later,
        comes.among.greatest,
      );
      latest = comes.among.latest;
    };
    later = comes.later;
  })

  either : (hs : List Happening) (kept : Option Happening) → Either hs kept
  either [] kept = inl (record { same = refl; none_later = tt })
  either (g ∷ hs) kept = elim (cases_Bool ((g.card.number == number) && is_later kept g)) [
    | inl yes_ ↦ (let parts = and_parts (g.card.number == number) (is_later kept g) yes_ in
        kept_on g hs kept (eqb-true g.card.number number parts.0) parts.1
        (ap (λ b. cond b (Some g) kept) yes_) (either hs (Some g)))
    | inr no_ ↦ passed_on g hs kept
        (λ own. ap (λ b. b && is_later kept g) (sym (eq-eqb g.card.number number own)) ∙ no_)
        (ap (λ b. cond b (Some g) kept) no_) (either hs kept)
  ]

  none_of : (hs : List Happening) → AllByRecursion (NotLater None) hs →
      AllByRecursion (λ (h : Happening). h.card.number ≢ number) hs
  none_of [] all = tt
  none_of (h ∷ hs) all = (
    λ own. (let wrong : true ≡ false = all.0 own in absurd (cc)),
    none_of hs all.1,
  )

  pub record None_ (hs : List Happening) : Type 0 where
    pub is : last_of number hs None ≡ None
    pub none : AllByRecursion (λ (h : Happening). h.card.number ≢ number) hs

  pub record Last_ (hs : List Happening) : Type 0 where
    pub last : Happening
    pub is : last_of number hs None ≡ Some last
    pub among : IsLastIn hs last

  -- a packet has no event, or one is its last
  pub none_or_last : (hs : List Happening) → None_ hs ⊎ Last_ hs
  none_or_last hs = elim (either hs None) [
    | inl stays ↦ inl (record { is = stays.same; none = none_of hs stays.none_later })
    | inr comes ↦ inr (record { last = comes.last; is = comes.is; among = comes.among })
  ]

-- ---- the entry that an event is of

record InFirst {X : Type 0} (ps bs xs ys : List X) (h : X) : Type 0 where
  rest : List X
  first : ps ≡ xs ++ h ∷ rest
  behind : ys ≡ rest ++ bs

record InSecond {X : Type 0} (ps bs xs ys : List X) (h : X) : Type 0 where
  rest : List X
  second : bs ≡ rest ++ h ∷ ys
  ahead : xs ≡ ps ++ rest

-- an item of two lists is one of the first or one of the second
among_two : {X : Type 0} (ps bs xs ys : List X) (h : X) → ps ++ bs ≡ xs ++ h ∷ ys →
    InFirst ps bs xs ys h ⊎ InSecond ps bs xs ys h
among_two [] bs xs ys h e = inr (record { rest = xs; second = e; ahead = refl })
among_two (a ∷ ps) bs [] ys h e =
    let same : a ≡ h = cc in
    let others : ps ++ bs ≡ ys = cc in
    inl (record { rest = ps; first = ap (λ x. x ∷ ps) same; behind = sym others })
among_two (a ∷ ps) bs (x ∷ xs) ys h e =
    let same : a ≡ x = cc in
    let others : ps ++ bs ≡ xs ++ h ∷ ys = cc in
    elim (among_two ps bs xs ys h others) [
      | inl f ↦ inl (record {
        rest = f.rest;
        first = ap (λ y. y ∷ ps) same ∙ ap (λ zs. x ∷ zs) f.first;
        behind = f.behind;
      })
      | inr s ↦ inr (record {
        rest = s.rest;
        second = s.second;
        ahead = ap (λ y. y ∷ xs) (sym same) ∙ ap (λ zs. a ∷ zs) s.ahead;
      })
    ]

-- the entry of these, after those, that the event between front and back is of
record IsOfEntries (p es : List Entry) (front back : List Happening) (h : Happening) : Type 0 where
  before : List Entry
  entry : Entry
  after : List Entry
  split : es ≡ before ++ entry ∷ after
  us : List Happening
  vs : List Happening
  event : happens_after (p ++ before) entry ≡ us ++ h ∷ vs
  front_is : front ≡ happenings_after p before ++ us
  back_is : back ≡ vs ++ happenings_after ((p ++ before) ++ entry ∷ []) after

none_in_nothing : (front back : List Happening) (h : Happening) → [] ≡ front ++ h ∷ back → ⊥
none_in_nothing [] back h e = cc
none_in_nothing (f ∷ front) back h e = cc

of_entries : (p es : List Entry) (front back : List Happening) (h : Happening) →
    happenings_after p es ≡ front ++ h ∷ back → IsOfEntries p es front back h
of_entries p [] front back h e = absurd (none_in_nothing front back h e)
of_entries p (e ∷ es) front back h is =
    elim (among_two (happens_after p e) (happenings_after (p ++ e ∷ []) es) front back h is) [
      | inl f ↦ record {
        before = [];
        entry = e;
        after = es;
        split = refl;
        us = front;
        vs = f.rest;
        event = ap (λ (gs : List Entry). happens_after gs e) (append-nil p) ∙ f.first;
        front_is = refl;
        back_is = f.behind
            ∙ ap (λ (gs : List Entry). f.rest ++ happenings_after (gs ++ e ∷ []) es)
            (sym (append-nil p));
      }
      | inr s ↦ further s (of_entries (p ++ e ∷ []) es s.rest back h s.second)
    ]
  where
    further : (s : InSecond (happens_after p e) (happenings_after (p ++ e ∷ []) es) front back h) →
        IsOfEntries (p ++ e ∷ []) es s.rest back h → IsOfEntries p (e ∷ es) front back h
    further s r = record {
      before = e ∷ r.before;
      entry = r.entry;
      after = r.after;
      split = ap (λ gs. e ∷ gs) r.split;
      us = r.us;
      vs = r.vs;
      event = ap (λ (gs : List Entry). happens_after gs r.entry)
          (sym (append_assoc p (e ∷ []) r.before)) ∙ r.event;
      front_is = s.ahead ∙ ap (λ hs. happens_after p e ++ hs) r.front_is
          ∙ sym (append_assoc (happens_after p e) (happenings_after (p ++ e ∷ []) r.before) r.us);
      back_is = r.back_is
          ∙ ap (λ (gs : List Entry). r.vs ++ happenings_after (gs ++ r.entry ∷ []) r.after)
          (append_assoc p (e ∷ []) r.before);
    }

all_front : {X : Type 0} (P : X → Type 0) (xs ys : List X) → AllByRecursion P (xs ++ ys) →
    AllByRecursion P xs
all_front P [] ys all = tt
all_front P (x ∷ xs) ys all = (all.0, all_front P xs ys all.1)

all_back : {X : Type 0} (P : X → Type 0) (xs ys : List X) → AllByRecursion P (xs ++ ys) →
    AllByRecursion P ys
all_back P [] ys all = all
all_back P (x ∷ xs) ys all = all_back P xs ys all.1

-- ---- what the event tells

-- every reply to an arrival is an outcome
pub outcome_of : (e : Entry) (before : List Entry) (card : Card) (bypass room : Bool) →
    e.event ≡ Arrive card bypass room → IsStep (replay (history e.queue before)) e →
    ((q : Option Bound) (ev : Event) → CountsLeft ev (step q ev).reply (length (step q ev).left)) →
    (outcome : Outcome) × (e.reply ≡ Arrived outcome)
outcome_of e before card bypass room arrives is counts =
    of e.reply _ (subst (λ ev. CountsLeft ev e.reply (length (step_after before e).left)) arrives
    (subst (λ r. CountsLeft e.event r (length (step_after before e).left)) (sym is.reply)
    (counts (replay (history e.queue before)) e.event)))
  where
    of : (r : Reply) (n : ℕ) → TellsArrival r n → (outcome : Outcome) × (r ≡ Arrived outcome)
    of (Arrived o) n tells = (o, refl)
    of (Answer errno taken) n tells = absurd (tells)
    of (Flushed taken) n tells = absurd (tells)

-- what departs is among what left
departs : (f : Card × Way → Happening) (left : List (Card × Way)) (us vs : List Happening)
    (h : Happening) → map f left ≡ us ++ h ∷ vs → (l : Card × Way) × Contains left l × (h ≡ f l)
departs f [] us vs h e = absurd (none_in_nothing us vs h e)
departs f (l ∷ left) [] vs h e =
    let same : f l ≡ h = cc in (l, (0, omega arith, refl), sym same)
departs f (l ∷ left) (u ∷ us) vs h e =
    let others : map f left ≡ us ++ h ∷ vs = cc in
    let rest = departs f left us vs h others in
    (rest.0, Contains-append_right (l ∷ []) left rest.0 rest.1, rest.2)

one_only : (g h : Happening) (us vs : List Happening) → g ∷ [] ≡ us ++ h ∷ vs → g ≡ h
one_only g h [] vs e = cc
one_only g h (u ∷ us) vs e =
    let rest : [] ≡ us ++ h ∷ vs = cc in absurd (none_in_nothing us vs h rest)

pub event_of : (before : List Entry) (e : Entry) (us vs : List Happening) (h : Happening) →
    IsStep (replay (history e.queue before)) e →
    ((q : Option Bound) (ev : Event) → CountsLeft ev (step q ev).reply (length (step q ev).left)) →
    happens_after before e ≡ us ++ h ∷ vs → IsEventOf before e h
event_of before e us vs h is counts happened =
    by_event e.event refl happened
  where
    leaving : (ev : Event) → e.event ≡ ev → (fate_by : Way → Fate) →
        ((card : Card) (way : Way) → Leaves (step_after before e) card way →
        Tells ev e.reply (step_after before e) card (fate_by way)) →
        departing e.queue (length (history e.queue before) + 1) fate_by (step_after before e).left
        ≡ us ++ h ∷ vs → IsEventOf before e h
    leaving ev ev_is fate_by says is_ =
        let d = departs _ (step_after before e).left us vs h is_ in record {
          queue = ap (λ (g : Happening). g.queue) d.2;
          at = ap (λ (g : Happening). g.at) d.2;
          tells = subst (λ ev. Tells ev e.reply (step_after before e) h.card h.fate) (sym ev_is)
              (subst (λ (g : Happening). Tells ev e.reply (step_after before e) g.card g.fate)
              (sym d.2) (says d.0.0 d.0.1 d.1));
        }

    by_event : (ev : Event) → e.event ≡ ev →
        happens e.queue (length (history e.queue before) + 1) ev (step_after before e)
        ≡ us ++ h ∷ vs → IsEventOf before e h
    by_event (Arrive card bypass room) ev_is is_ =
        let o = outcome_of e before card bypass room ev_is is counts in
        let same = one_only _ h us vs is_ in record {
          queue = sym (ap (λ (g : Happening). g.queue) same);
          at = sym (ap (λ (g : Happening). g.at) same);
          tells = subst (λ ev. Tells ev e.reply (step_after before e) h.card h.fate) (sym ev_is) (
            sym (ap (λ (g : Happening). g.card) same),
            (
              o.0,
              o.1,
              sym (ap (λ (g : Happening). g.fate) same)
                  ∙ ap fate_by_reply (sym is.reply ∙ o.1),
            ),
          );
        }
    by_event (Ask port call request) ev_is is_ =
        leaving (Ask port call request) ev_is (fate_by_request request)
        (λ card way left. (way, left, refl)) is_
    by_event (PortClosed port) ev_is is_ =
        leaving (PortClosed port) ev_is (λ way. fate.PortClosed)
        (λ card way left. (way, left, refl)) is_
    by_event (DeviceDown device) ev_is is_ =
        leaving (DeviceDown device) ev_is (λ way. fate.DeviceDown)
        (λ card way left. (way, left, refl)) is_

-- ---- lines

-- the last event of a packet is an entry's
last_event : (es : List Entry) (number : ℕ) (h : Happening) → AreLegal es →
    ((q : Option Bound) (ev : Event) → CountsLeft ev (step q ev).reply (length (step q ev).left)) →
    IsLastIn number (happenings es) h → IsLastEvent es number h
last_event es number h legal counts last =
    let o = of_entries [] es last.front last.back h last.split in record {
      before = o.before;
      entry = o.entry;
      after = o.after;
      split = o.split;
      event = event_of o.before o.entry o.us o.vs h
          (step_at o.before o.after o.entry (subst AreLegal o.split legal)) counts o.event;
      number_is = last.number_is;
      greatest = All-from_recursion _ (happenings o.before)
          (all_front _ (happenings o.before) o.us
          (subst (AllByRecursion (Before number h.card.visit)) o.front_is last.greatest));
      latest = All-from_recursion _ (happenings_after (o.before ++ o.entry ∷ []) o.after)
          (all_back _ o.vs (happenings_after (o.before ++ o.entry ∷ []) o.after)
          (subst (AllByRecursion (After number h.card.visit)) o.back_is last.latest));
    }

-- each line is that of its frame, from this number on
line_at : (hs : List Happening) (lost : List Lost) (k : ℕ) (fs : List Frame) (i : ℕ) (f : Frame) →
    slice_get fs i ≡ Some f → slice_get (fates_from hs lost k fs) i
    ≡ Some (fate_line (is_lost lost (k + i)) (k + i) f (last_of (k + i) hs None))
line_at hs lost k [] i f there = absurd (cc)
line_at hs lost k (g ∷ fs) zero f there =
    let same : g ≡ f = cc in
    ap (λ x. Some (fate_line (is_lost lost k) k x (last_of k hs None))) same
    ∙ ap (λ n. Some (fate_line (is_lost lost n) n f (last_of n hs None)))
    (let e : k ≡ k + 0 = omega arith in e)
line_at hs lost k (g ∷ fs) (suc i) f there =
    line_at hs lost (k + 1) fs i f there
    ∙ ap (λ n. Some (fate_line (is_lost lost n) n f (last_of n hs None)))
    (let e : k + 1 + i ≡ k + suc i = omega arith in e)

pub each_line : ((q : Option Bound) (ev : Event) →
    CountsLeft ev (step q ev).reply (length (step q ev).left)) →
    (h : Histories) (fs : List Frame) (i : ℕ) (f : Frame) (l : FateLine) → AreLegal h.entries →
    slice_get fs i ≡ Some f → slice_get (fates h fs) i ≡ Some l → IsLineOf h (i + 1) f l
each_line counts h fs i f l legal there line =
    let is : slice_get (fates h fs) i ≡ Some (fate_line (is_lost h.lost (i + 1)) (i + 1) f
    (last_of (i + 1) (happenings h.entries) None)) =
    line_at (happenings h.entries) h.lost 1 fs i f there
    ∙ ap (λ n. Some (fate_line (is_lost h.lost n) n f (last_of n (happenings h.entries) None)))
    (let e : 1 + i ≡ i + 1 = omega arith in e) in
    let both : Some l ≡ Some (fate_line (is_lost h.lost (i + 1)) (i + 1) f
    (last_of (i + 1) (happenings h.entries) None)) = sym line ∙ is in
    let same : l ≡ fate_line (is_lost h.lost (i + 1)) (i + 1) f
    (last_of (i + 1) (happenings h.entries) None) = cc in
    elim (none_or_last (i + 1) (happenings h.entries)) [
      | inl none ↦ inl (
        All-from_recursion _ (happenings h.entries) none.none,
        same ∙ ap (fate_line (is_lost h.lost (i + 1)) (i + 1) f) none.is,
      )
      | inr some ↦ inr (
        some.last,
        last_event h.entries (i + 1) some.last legal counts some.among,
        same ∙ ap (fate_line (is_lost h.lost (i + 1)) (i + 1) f) some.is,
      )
    ]
