-- What each move of a run keeps of its mailboxes: the letters in them, with the visits that are
-- left to the packets that wait, are no more than the packets that were fed may cost; and no letter
-- is in the box of a port that is closed.
use Rattle.std.proofs.Common.{◌≡◌, ◌≤◌, ◌<◌, ◌⊎◌, ◌∙◌, ◌+◌, ◌-◌, ℕ, zero, suc, List, [], ◌∷◌, ◌++◌}
use Rattle.std.proofs.Common.{Option, Some, None, Bool, true, false, refl, sym, ap, subst, inl, inr}
use Rattle.std.proofs.Common.{arith, append_assoc}
use Rattle.std.specs.Prelude.{◌==◌, ◌≢◌, not, map, option_map, nat_eq, nat_lt, if◌then◌else◌}
use Rattle.std.specs.List.{list_any}
use Rattle.std.proofs.lemmas.Bool.{cases_Bool, eq-eqb, eqb-true, ltb-true, ltb-false}
use Rattle.std.proofs.lemmas.List.Elements.{filter-append}
use Rattle.packet_entry.specs.declared.packet.Card.{Card}
use Rattle.packet_entry.specs.declared.letter.Letter.{Letter}
use Rattle.packet_entry.specs.Numbers.{last_visit}
use Rattle.netlink_codec.specs.Messages.{NetlinkMessage}
use Rattle.nfqa_msgs.specs.declared.request.Request.{Request}
use Rattle.nfqa_msgs.specs.declared.request.Decoded.{Decoded}
use Rattle.nfqa_msgs.specs.declared.request.Decoded.TheVariants.{Nothing, Refused, Asked}
use Rattle.nfqa_msgs.specs.RequestReading.{decoded}
use Rattle.hook_chain.specs.declared.chain.Decision.{Decision}
use Rattle.hook_chain.specs.declared.chain.Decision.TheVariants.{Accept}
use Rattle.hook_chain.specs.declared.chain.Next.{Next}
use Rattle.hook_chain.specs.declared.chain.Next.TheVariants.{Released, To}
use Rattle.hook_chain.specs.Route.{onward_of}
use Rattle.queue_core.specs.State.{Bound}
use Rattle.queue_core.specs.Step.{Way, Gone, Open, step}
use Rattle.queue_core.specs.Laws.{times, arriving, leaving_in}
use Rattle.queue_core.specs.declared.event.Event.TheVariants.{Arrive, Ask}
use Rattle.histories.specs.declared.entry.Entry.{Entry}
use Rattle.histories.specs.declared.log.Did.TheVariants.{Sent}
use Rattle.histories.specs.Numbers.{queue_count}
use Rattle.histories.specs.History.{history, is_of, replay}
use Rattle.histories.specs.Journeys.{Arrival}
use Rattle.histories.specs.States.{state_of, entry_of, every_number}
use Rattle.histories.specs.Happenings as happening
use Rattle.packet_moves.specs.declared.setting.Setting.{Setting}
use Rattle.packet_moves.specs.World.{World, Port, at_port, changed_at, delivered, having_done}
use Rattle.packet_moves.specs.World.{closed}
use Rattle.packet_moves.specs.World.{received}
use Rattle.packet_moves.specs.HandedOn.{LeavesAlone}
use Rattle.packet_moves.specs.Moving.{arrived, arrival_to, left_at_once, room_for, turned_away}
use Rattle.packet_moves.specs.Moving.{with_notice, carry, carry_on, settled, goes_on}
use Rattle.packet_moves.specs.Moving.{Carried}
use Rattle.packet_moves.specs.Messages.{asking, with_ask, words_of, answered}
use Rattle.packet_moves.specs.Planes.{with_closed, without_device}
use Rattle.run_parts.specs.Ports.{AreApart}
use Rattle.solo_schedule.specs.Numbers.{enough_arrivals}
use Rattle.run_parts.specs.Closing.{IsClosing, is_bound_to}
use Rattle.solo_schedule.specs.Schedule.{is_open_port, letters_at}
use Rattle.solo_schedule.specs.Sending.{all_moved, carried_out, errno_of, sent_as}
use Rattle.solo_schedule.proofs.Closings.{Laws}
use Rattle.solo_schedule.proofs.ClosedPorts.{AreShut, is_shut, shut_kept, asked_shut, ports_then}
use Rattle.solo_schedule.proofs.ClosedPorts.{received_stays}
use Rattle.solo_schedule.proofs.LaterVisits.{MayGo, LeaveAlone}
use Rattle.solo_schedule.proofs.EmptyStart.{Conserve, AllBring, bring_all, closing_brings}
use Rattle.solo_schedule.proofs.EmptyStart.{down_brings}
use Rattle.solo_schedule.proofs.Pools.{Pool, Waits, cards, pushed, weight, weight_same}
use Rattle.solo_schedule.proofs.Pools.{weight_cons, weight_none, is_late, in_time, one, times_cons}
use Rattle.solo_schedule.proofs.Pools.{carried, go_early, go_cost}
use Rattle.solo_schedule.proofs.Mailboxes.{in_boxes, boxes_same, boxes_more, boxes_less}

-- ---- queue numbers

-- no entry is of a queue beyond those that there are
abbrev pub AreBelow : List Entry → Type 0
AreBelow es = (queue : ℕ) → queue_count ≤ queue → history queue es ≡ []

front_none : (xs ys : List Entry) → xs ++ ys ≡ [] → xs ≡ []
front_none [] ys is = refl
front_none (x ∷ xs) ys wrong = absurd (cc)

pub below_front : (es fs : List Entry) → AreBelow (es ++ fs) → AreBelow es
below_front es fs below queue out =
    front_none (history queue es) (history queue fs)
    (sym (filter-append (is_of queue) es fs) ∙ below queue out)

-- ---- packets that wait

-- no packet waits too late, and those that wait have so many visits left
pub record Stock (es : List Entry) (n : ℕ) : Type 0 where
  pub pool : Pool
  pub waits : Waits es pool
  pub early : times is_late (cards pool) ≡ 0
  pub few : weight 32 (cards pool) ≤ n

-- once an entry stands
pub record Moved (es : List Entry) (n : ℕ) (e : Entry) : Type 0 where
  pub rest : ℕ
  pub stock : Stock (es ++ e ∷ []) rest
  pub cost : rest + weight 32 (leaving_in (step (state_of es e.queue) e.event))
      ≤ n + weight 32 (arriving e.event)
  pub early : times is_late (leaving_in (step (state_of es e.queue) e.event))
      ≤ times is_late (arriving e.event)

pub stock_push : Conserve → (es : List Entry) (n : ℕ) (e : Entry) →
    times is_late (arriving e.event)
    ≤ times is_late (leaving_in (step (state_of es e.queue) e.event)) →
    Stock es n → Moved es n e
stock_push conserve es n e early is =
    let p = pushed conserve es e is.pool is.waits in
    let out = leaving_in (step (state_of es e.queue) e.event) in
    record {
      rest = weight 32 (cards p.next);
      stock = record {
        pool = p.next;
        waits = p.waits;
        early = omega (arith, p.same is_late, is.early, early);
        few = omega arith;
      };
      cost = omega (
        arith,
        weight_same 32 (cards p.next) out (cards is.pool) (arriving e.event) p.same,
        is.few,
      );
      early = omega (arith, p.same is_late, is.early);
    }

none_arrive : (e : Entry) (es : List Entry) → AllBring false (e ∷ es) → arriving e.event ≡ []
none_arrive e es brings = by (arriving e.event) brings.0
  where
    by : (cs : List Card) → times (λ number visit. true) cs ≡ 0 → cs ≡ []
    by [] none = refl
    by (c ∷ cs) none =
        let more : times (λ number visit. true) (c ∷ cs)
        ≡ 1 + times (λ number visit. true) cs = times_cons (λ number visit. true) c cs in
        absurd (omega (arith, none, more))

-- entries that bring nothing
pub stock_on : Conserve → (es fs : List Entry) (n : ℕ) → AllBring false fs → Stock es n →
    Stock (es ++ fs) n
stock_on conserve es [] n brings is = subst (λ gs. Stock gs n) (sym (nothing_behind es)) is
  where
    nothing_behind : (gs : List Entry) → gs ++ [] ≡ gs
    nothing_behind [] = refl
    nothing_behind (g ∷ gs) = ap (λ hs. g ∷ hs) (nothing_behind gs)
stock_on conserve es (f ∷ fs) n brings is =
    let none : arriving f.event ≡ [] = none_arrive f fs brings in
    let nobody : times is_late (arriving f.event) ≡ 0 = ap (times is_late) none in
    let m = stock_push conserve es n f (omega (arith, nobody)) is in
    let free : weight 32 (arriving f.event) ≡ 0 = ap (weight 32) none ∙ weight_none 32 in
    subst (λ gs. Stock gs n) (append_assoc es (f ∷ []) fs)
    (stock_on conserve (es ++ f ∷ []) fs n brings.1 (record {
      pool = m.stock.pool;
      waits = m.stock.waits;
      early = m.stock.early;
      few = omega (arith, m.stock.few, m.cost, free);
    }))

-- ---- what is kept

module _ (ps : List ℕ) where
  -- `o` says which ports are open
  pub record Held (o : ℕ → Bool) (es : List Entry) (ports : ℕ → Option Port) (b : ℕ)
      : Type 0 where
    pub n : ℕ
    pub stock : Stock es n
    pub few : in_boxes ports ps + n ≤ b
    pub is_open : (p : ℕ) → is_open_port (ports p) ≡ o p
    pub quiet : AreBelow es → (p : ℕ) → o p ≡ false → letters_at (ports p) ≡ []
    pub shut : AreShut es ports

  abbrev pub HeldIn : (ℕ → Bool) → World → ℕ → Type 0
  HeldIn o w b = Held o w.entries w.ports b

  pub more_held : (o : ℕ → Bool) (es : List Entry) (ports : ℕ → Option Port) (b c : ℕ) → b ≤ c →
      Held o es ports b → Held o es ports c
  more_held o es ports b c less is = record {
    n = is.n;
    stock = is.stock;
    few = omega (arith, is.few, less);
    is_open = is.is_open;
    quiet = is.quiet;
    shut = is.shut;
  }

-- all but this port
abbrev pub but : ℕ → (ℕ → Bool) → ℕ → Bool
but port o p = if p == port then false else o p

-- ---- a notice comes

notice_open : (q : Option Bound) (a : Arrival) (left : List (Card × Way)) (ports : ℕ → Option Port)
    (p : ℕ) → is_open_port (with_notice q a left ports p) ≡ is_open_port (ports p)
notice_open None a left ports p = refl
notice_open (Some b) a (l ∷ ls) ports p = refl
notice_open (Some b) a [] ports p = by (p == b.port) (ports p) _
  where
    by : (c : Bool) (o : Option Port) (letter : Letter) →
        is_open_port (if c then option_map (delivered letter) o else o) ≡ is_open_port o
    by true None letter = refl
    by true (Some held) letter = refl
    by false o letter = refl

notice_boxes : (ps : List ℕ) → AreApart ps → (q : Option Bound) (a : Arrival)
    (left : List (Card × Way)) (ports : ℕ → Option Port) →
    in_boxes (with_notice q a left ports) ps ≤ 1 + in_boxes ports ps
notice_boxes ps apart None a left ports = omega arith
notice_boxes ps apart (Some b) a (l ∷ ls) ports = omega arith
notice_boxes ps apart (Some b) a [] ports = boxes_more b.port _ ports ps apart

notice_none : (q : Option Bound) (a : Arrival) (l : Card × Way) (ls left : List (Card × Way))
    (ports : ℕ → Option Port) → left ≡ l ∷ ls → (ps : List ℕ) →
    in_boxes (with_notice q a left ports) ps ≡ in_boxes ports ps
notice_none q a l ls left ports is ps =
    ap (λ ms. in_boxes (with_notice q a ms ports) ps) is ∙ by q
  where
    by : (q : Option Bound) → in_boxes (with_notice q a (l ∷ ls) ports) ps ≡ in_boxes ports ps
    by None = refl
    by (Some b) = refl

-- no queue is bound to a port that closed
notice_quiet : (es : List Entry) (q : Option Bound) (a : Arrival) (left : List (Card × Way))
    (ports : ℕ → Option Port) (p : ℕ) → state_of es a.queue ≡ q → AreBelow es →
    AreShut es ports → is_open_port (ports p) ≡ false → letters_at (ports p) ≡ [] →
    letters_at (with_notice q a left ports p) ≡ []
notice_quiet es None a left ports p state below shut not_open none = none
notice_quiet es (Some b) a (l ∷ ls) ports p state below shut not_open none = none
notice_quiet es (Some b) a [] ports p state below shut not_open none =
    by (cases_Bool (p == b.port)) _
  where
    bound : p ≡ b.port → IsClosing p true (history a.queue es) → ⊥
    bound same closing =
        let yes : is_bound_to p (Some b) ≡ true = eq-eqb p b.port same in
        let no : is_bound_to p (state_of es a.queue) ≡ false = closing.unbound in
        let wrong : true ≡ false = sym yes ∙ ap (is_bound_to p) (sym state) ∙ no in
        cc

    within : ((nat_lt a.queue queue_count) ≡ true) ⊎ ((nat_lt a.queue queue_count) ≡ false) →
        a.queue < queue_count
    within (inl h) = ltb-true a.queue queue_count h
    within (inr h) =
        let nothing : history a.queue es ≡ [] =
        below a.queue (ltb-false a.queue queue_count h) in
        let absent : state_of es a.queue ≡ None = ap replay nothing in
        let wrong : Some b ≡ None = sym state ∙ absent in
        absurd (cc)

    closed_so : (c : Bool) → not c ≡ false → c ≡ true
    closed_so true is = refl
    closed_so false is = sym is

    at : (o : Option Port) (letter : Letter) → ports p ≡ o → p ≡ b.port →
        letters_at (option_map (delivered letter) o) ≡ []
    at None letter there same = refl
    at (Some held) letter there same =
        let off : not held.is_closed ≡ false = sym (ap is_open_port there) ∙ not_open in
        let shut_so : is_shut (ports p) ≡ true =
        ap is_shut there ∙ closed_so held.is_closed off in
        absurd (bound same (subst (λ c. IsClosing p c (history a.queue es)) shut_so
        (shut.each p a.queue (within (cases_Bool (nat_lt a.queue queue_count))))))

    by : ((p == b.port) ≡ true) ⊎ ((p == b.port) ≡ false) → (letter : Letter) →
        letters_at (changed_at b.port (delivered letter) ports p) ≡ []
    by (inl h) letter = rw h (at (ports p) letter refl (eqb-true p b.port h))
    by (inr h) letter = rw h none

-- ---- the moves

-- a packet waits after its arrival, or goes on or ends
pub data Comes (ps : List ℕ) (s : Setting) (o : ℕ → Bool) (w : World) (a : Arrival) (b : ℕ)
    : Type 0 where
  Stays : turned_away s w a ≡ [] →
      HeldIn ps o (arrived s w a) (b + (1 + (32 - a.card.visit))) → a.card.visit ≤ 32 →
      Comes ps s o w a b
  Leaves : (way : Way) → turned_away s w a ≡ (a.card, way) ∷ [] →
      (way ≡ Gone) ⊎ ((way ≡ Open) × (a.card.visit ≤ 32)) →
      HeldIn ps o (arrived s w a) b → Comes ps s o w a b

module _ (laws : Laws) (conserve : Conserve) (leaves : LeaveAlone) (s : Setting) (ps : List ℕ)
    (apart : AreApart ps) where
  nothing_is : (l : Card × Way) → [] ≡ l ∷ [] → ⊥
  nothing_is l wrong = cc

  before_last : (q : Option Bound) (a : Arrival) (room : Bool) → a.card.visit ≤ 33 →
      (step q (happening.arrive a room)).left ≡ [] → a.card.visit ≤ 32
  before_last q a room most none = by (cases_Bool (a.card.visit == last_visit))
    where
      by : ((a.card.visit == last_visit) ≡ true) ⊎ ((a.card.visit == last_visit) ≡ false) →
          a.card.visit ≤ 32
      by (inl h) =
          let some : (step q (happening.arrive a room)).left ≡ (a.card, Gone) ∷ [] = rw h refl in
          absurd (nothing_is (a.card, Gone) (sym none ∙ some))
      by (inr h) = differ a.card.visit most h
        where
          differ : (v : ℕ) → v ≤ 33 → (v == 33) ≡ false → v ≤ 32
          differ v most h = at (cases_Bool (nat_lt 32 v))
            where
              at : (nat_lt 32 v ≡ true) ⊎ (nat_lt 32 v ≡ false) → v ≤ 32
              at (inl g) =
                  let late = ltb-true 32 v g in
                  let is : v ≡ 33 = omega (arith, most, late) in
                  let yes : (v == 33) ≡ true = eq-eqb v 33 is in
                  let wrong : true ≡ false = sym yes ∙ h in
                  absurd (cc)
              at (inr g) = ltb-false 32 v g

  arrival_held : (o : ℕ → Bool) (w : World) (a : Arrival) (b : ℕ) → a.card.visit ≤ 33 →
      HeldIn ps o w b → Comes ps s o w a b
  arrival_held o w a b most is =
      by (leaves (state_of w.entries a.queue) a.card a.bypass (room_for s w a))
    where
      q : Option Bound
      q = state_of w.entries a.queue

      left : List (Card × Way)
      left = left_at_once w a (room_for s w a)

      e : Entry
      e = entry_of w.entries a.queue (happening.arrive a (room_for s w a))

      ports : ℕ → Option Port
      ports = with_notice q a left w.ports

      quiet : AreBelow (w.entries ++ e ∷ []) → (p : ℕ) → o p ≡ false → letters_at (ports p) ≡ []
      quiet below p off =
          let front = below_front w.entries (e ∷ []) below in
          notice_quiet w.entries q a left w.ports p refl front is.shut (is.is_open p ∙ off)
          (is.quiet front p off)

      held : (m : Moved w.entries is.n e) (c : ℕ) → in_boxes ports ps + m.rest ≤ c →
          HeldIn ps o (arrived s w a) c
      held m c few = record {
        n = m.rest;
        stock = m.stock;
        few = few;
        is_open = λ p. notice_open q a left w.ports p ∙ is.is_open p;
        quiet = quiet;
        shut = (shut_kept laws s).arrives w (λ p. []) a is.shut;
      }

      by : LeavesAlone a.card (step q (Arrive a.card a.bypass (room_for s w a))) →
          Comes ps s o w a b
      by (inl none) =
          let early = before_last q a (room_for s w a) most none in
          let nobody : times is_late (a.card ∷ []) ≡ one is_late a.card + 0 =
          times_cons is_late a.card [] in
          let m = stock_push conserve w.entries is.n e
          (omega (arith, nobody, in_time a.card early)) is.stock in
          Stays none (held m (b + (1 + (32 - a.card.visit)))
          (omega (
            arith,
            is.few,
            m.cost,
            notice_boxes ps apart q a left w.ports,
            weight_cons 32 a.card [],
            weight_none 32,
          ))) early
      by (inr some) =
          let way = some.0 in
          let out : leaving_in (step q e.event) ≡ a.card ∷ [] =
          ap (λ (ls : List (Card × Way)). map (λ l. l.0) ls) some.1 in
          let same = ap (times is_late) out in
          let m = stock_push conserve w.entries is.n e (omega (arith, same)) is.stock in
          Leaves way some.1 (on some.2)
          (held m b (omega (
            arith,
            is.few,
            m.cost,
            ap (weight 32) out,
            notice_none q a (a.card, way) [] left w.ports some.1 ps,
          )))
        where
          on : {way : Way} → (way ≡ Gone) ⊎ ((way ≡ Open) × (a.card.visit ≢ last_visit)) →
              (way ≡ Gone) ⊎ ((way ≡ Open) × (a.card.visit ≤ 32))
          on (inl gone) = inl gone
          on (inr opens) = inr (opens.0, differ a.card.visit most opens.1)
            where
              differ : (v : ℕ) → v ≤ 33 → v ≢ 33 → v ≤ 32
              differ v most not = omega (arith, most, not)

  -- ---- packets that move on

  abbrev Carries : (World → Card → Next → Carried) → (ℕ → Bool) → Type 0
  Carries on o = (w : World) (card : Card) (route : Next) (b c : ℕ) → card.visit ≤ 32 →
      b + (32 - card.visit) ≤ c → HeldIn ps o w b → HeldIn ps o (on w card route).world c

  goes_held : (o : ℕ → Bool) (on : Next → Carried) (w : World) (route : Option Next) (b c : ℕ) →
      b ≤ c → ((r : Next) → HeldIn ps o (on r).world c) → HeldIn ps o w b →
      HeldIn ps o (goes_on on w route).world c
  goes_held o on w None b c less goes is = more_held ps o w.entries w.ports b c less is
  goes_held o on w (Some r) b c less goes is = goes r

  settle_held : (o : ℕ → Bool) (on : World → Card → Next → Carried) → Carries on o → (w : World)
      (a : Arrival) (b c : ℕ) → b + (33 - a.card.visit) ≤ c → Comes ps s o w a b →
      HeldIn ps o (settled on s (arrived s w a) (turned_away s w a)).world c
  settle_held o on goes w a b c cost (Stays none is early) =
      subst (λ ls. HeldIn ps o (settled on s (arrived s w a) ls).world c) (sym none)
      (more_held ps o (arrived s w a).entries (arrived s w a).ports
      (b + (1 + (32 - a.card.visit))) c (omega (arith, cost, early)) is)
  settle_held o on goes w a b c cost (Leaves way some (inl gone) is) =
      subst (λ ls. HeldIn ps o (settled on s (arrived s w a) ls).world c)
      (sym (some ∙ ap (λ v. (a.card, v) ∷ []) gone))
      (more_held ps o (arrived s w a).entries (arrived s w a).ports b c (omega (arith, cost)) is)
  settle_held o on goes w a b c cost (Leaves way some (inr opens) is) =
      subst (λ ls. HeldIn ps o (settled on s (arrived s w a) ls).world c)
      (sym (some ∙ ap (λ v. (a.card, v) ∷ []) opens.0))
      (goes_held o (on (arrived s w a) a.card) (arrived s w a)
      (onward_of s.tables s.key a.card Accept) b c (omega (arith, cost))
      (λ r. goes (arrived s w a) a.card r b c opens.1 (omega (arith, cost)) is) is)

  pub carry_held : (o : ℕ → Bool) (memory : ℕ) → Carries (carry memory s) o
  carry_held o zero w card Released b c early cost is =
      more_held ps o w.entries w.ports b c (omega (arith, cost)) is
  carry_held o zero w card (To queue bypass table) b c early cost is =
      more_held ps o w.entries w.ports b c (omega (arith, cost)) is
  carry_held o (suc memory) w card Released b c early cost is =
      more_held ps o w.entries w.ports b c (omega (arith, cost)) is
  carry_held o (suc memory) w card (To queue bypass table) b c early cost is =
      let a = arrival_to queue bypass table card in
      settle_held o (carry memory s) (carry_held o memory) w a b c (omega (arith, cost, early))
      (arrival_held o w a b (omega (arith, early)) is)

  moved_held : (o : ℕ → Bool) (hs : List (Card × Decision)) (w : World) (b c : ℕ) →
      MayGo (λ v. v ≤ 32) hs → b + carried hs ≤ c → HeldIn ps o w b →
      HeldIn ps o (all_moved s hs w) c
  moved_held o [] w b c may cost is =
      more_held ps o w.entries w.ports b c (omega (arith, cost)) is
  moved_held o (h ∷ hs) w b c may cost is =
      let on = onward_of s.tables s.key h.0 h.1 in
      let m = b + (32 - h.0.visit) in
      moved_held o hs (carry_on enough_arrivals s w h.0 on).world m c may.1 (omega (arith, cost))
      (goes_held o (carry enough_arrivals s w h.0) w on b m (omega arith)
      (λ r. carry_held o enough_arrivals w h.0 r b m may.0 (omega arith) is) is)

  -- ---- a message

  asked_held : (o : ℕ → Bool) (w : World) (port call : ℕ) (r : Request) (b : ℕ) →
      o port ≡ true → HeldIn ps o w b →
      HeldIn ps o (carried_out s port call (Asked r) w) b
  asked_held o w port call r b op is =
      let e = entry_of w.entries (happening.queue_of r) (Ask port call r) in
      let left = (asking w port call r).left in
      let m = stock_push conserve w.entries is.n e (omega arith) is.stock in
      let v = with_ask w port call r in
      let nobody : times is_late (map (λ l. l.0) left) ≡ 0 = omega (arith, m.early) in
      moved_held o (happening.all_handed left) v (in_boxes w.ports ps + m.rest) b
      (go_early left nobody)
      (omega (arith, m.cost, is.few, go_cost left, weight_none 32))
      (record {
        n = m.rest;
        stock = m.stock;
        few = omega arith;
        is_open = is.is_open;
        quiet = λ below. is.quiet (below_front w.entries (e ∷ []) below);
        shut = asked_shut laws w.entries w.ports port e (is.is_open port ∙ op) (λ p. refl)
            (λ p other. (other, refl, tt)) is.shut;
      })

  carried_held : (o : ℕ → Bool) (w : World) (port call : ℕ) (d : Decoded) (b : ℕ) →
      o port ≡ true → HeldIn ps o w b → HeldIn ps o (carried_out s port call d w) b
  carried_held o w port call Nothing b op is = is
  carried_held o w port call (Refused errno) b op is = is
  carried_held o w port call (Asked r) b op is = asked_held o w port call r b op is

  -- a port does something that leaves it open or closed, and its box as it is
  same_open : (port : ℕ) (g : Port → Port) (ports : ℕ → Option Port) →
      ((held : Port) → (g held).is_closed ≡ held.is_closed) → (p : ℕ) →
      is_open_port (changed_at port g ports p) ≡ is_open_port (ports p)
  same_open port g ports same p = by (p == port) (ports p)
    where
      by : (c : Bool) (q : Option Port) →
          is_open_port (if c then option_map g q else q) ≡ is_open_port q
      by true None = refl
      by true (Some held) = ap not (same held)
      by false q = refl

  same_letters : (port : ℕ) (g : Port → Port) (ports : ℕ → Option Port) →
      ((held : Port) → (g held).letters ≡ held.letters) → (p : ℕ) →
      letters_at (changed_at port g ports p) ≡ letters_at (ports p)
  same_letters port g ports same p = by (p == port) (ports p)
    where
      by : (c : Bool) (q : Option Port) →
          letters_at (if c then option_map g q else q) ≡ letters_at q
      by true None = refl
      by true (Some held) = same held
      by false q = refl

  pub sent_held : (o : ℕ → Bool) (w : World) (port call : ℕ) (m : NetlinkMessage) (b : ℕ) →
      o port ≡ true → HeldIn ps o w b → HeldIn ps o (sent_as s port call m w) b
  sent_held o w port call m b op is =
      let v = carried_out s port call (decoded m) w in
      let so = carried_held o w port call (decoded m) b op is in
      let g = having_done (Sent call (words_of port call m.whole (decoded m))
      (answered m (errno_of port call (decoded m) w))) in
      let letters = same_letters port g v.ports (λ held. refl) in
      record {
        n = so.n;
        stock = so.stock;
        few = omega (arith, so.few, boxes_same v.ports (changed_at port g v.ports) ps letters);
        is_open = λ p. same_open port g v.ports (λ held. refl) p ∙ so.is_open p;
        quiet = λ below p off. letters p ∙ so.quiet below p off;
        shut = ports_then v.entries v.ports port g (λ held. refl) so.shut;
      }

  -- ---- a notice is received

  pub record Got (o : ℕ → Bool) (w : World) (port b : ℕ) : Type 0 where
    pub rest : ℕ
    pub fewer : suc rest ≤ b
    pub held : HeldIn ps o (at_port port received w) rest

  pub get_held : (o : ℕ → Bool) (w : World) (port b : ℕ) (l : Letter) (ls : List Letter) →
      list_any (nat_eq port) ps ≡ true → o port ≡ true → letters_at (w.ports port) ≡ l ∷ ls →
      HeldIn ps o w b → Got o w port b
  get_held o w port b l ls within op some is =
      let less = boxes_less port w.ports ps l ls apart within some in
      record {
        rest = in_boxes (changed_at port received w.ports) ps + is.n;
        fewer = omega (arith, less, is.few);
        held = record {
          n = is.n;
          stock = is.stock;
          few = omega arith;
          is_open = λ p. same_open port received w.ports received_stays p ∙ is.is_open p;
          quiet = λ below p off. quiet below p off (cases_Bool (p == port));
          shut = ports_then w.entries w.ports port received received_stays is.shut;
        };
      }
    where
      quiet : AreBelow w.entries → (p : ℕ) → o p ≡ false →
          ((p == port) ≡ true) ⊎ ((p == port) ≡ false) →
          letters_at (changed_at port received w.ports p) ≡ []
      quiet below p off (inl h) =
          let wrong : true ≡ false = sym op ∙ ap o (sym (eqb-true p port h)) ∙ off in
          absurd (cc)
      quiet below p off (inr h) = rw h (is.quiet below p off)

  -- ---- a device goes down, and a port closes

  pub down_held : (o : ℕ → Bool) (w : World) (device b : ℕ) → HeldIn ps o w b →
      HeldIn ps o (without_device w device) b
  down_held o w device b is = record {
    n = is.n;
    stock = stock_on conserve w.entries (happening.downs device w.entries) is.n
        (bring_all false (λ k. happening.down_of device k (state_of w.entries k))
        (λ k. down_brings false device k (state_of w.entries k)) every_number) is.stock;
    few = is.few;
    is_open = is.is_open;
    quiet = λ below.
        is.quiet (below_front w.entries (happening.downs device w.entries) below);
    shut = (shut_kept laws s).falls w (λ p. []) device is.shut;
  }

  pub close_held : (o : ℕ → Bool) (w : World) (port b : ℕ) → o port ≡ true →
      letters_at (w.ports port) ≡ [] → HeldIn ps o w b →
      HeldIn ps (but port o) (with_closed w port) b
  close_held o w port b op none is =
      let fs = happening.closings port w.entries in
      let letters = same_letters port closed w.ports (λ held. refl) in
      record {
        n = is.n;
        stock = stock_on conserve w.entries fs is.n
            (bring_all false (λ k. happening.closing_of port k (state_of w.entries k))
            (λ k. closing_brings false port k (state_of w.entries k)) every_number) is.stock;
        few = omega (arith, is.few, boxes_same w.ports (changed_at port closed w.ports) ps letters);
        is_open = λ p. opens p (w.ports p) (is.is_open p) (p == port);
        quiet = λ below p off. letters p
            ∙ quiet (below_front w.entries fs below) p off (cases_Bool (p == port));
        shut = (shut_kept laws s).closes w (λ p. []) port (is.is_open port ∙ op) is.shut;
      }
    where
      opens : (p : ℕ) (q : Option Port) → is_open_port q ≡ o p → (c : Bool) →
          is_open_port (if c then option_map closed q else q) ≡ (if c then false else o p)
      opens p None so true = refl
      opens p (Some held) so true = refl
      opens p q so false = so

      quiet : AreBelow w.entries → (p : ℕ) → but port o p ≡ false →
          ((p == port) ≡ true) ⊎ ((p == port) ≡ false) → letters_at (w.ports p) ≡ []
      quiet below p off (inl h) = ap (λ k. letters_at (w.ports k)) (eqb-true p port h) ∙ none
      quiet below p off (inr h) = is.quiet below p (rw h at off)
