-- In sound histories, what holds of each packet that enters, and is kept by edits and on the way to
-- the next table, holds of each packet that arrives, and so of the packet of each event.
use Rattle.std.proofs.Common.{◌≡◌, ℕ, zero, suc, ◌+◌, List, [], ◌∷◌, ◌++◌, ◌∙◌}
use Rattle.std.proofs.Common.{Option, Some, None, Bool, true, false, cond, refl, ap, arith}
use Rattle.std.specs.Prelude.{◌==◌, ◌&&◌, not, count_by, sum_by, flat_map}
use Rattle.std.specs.List.{AllByRecursion}
use Rattle.std.proofs.lemmas.Bool.{eq-eqb, eqb-true}
use Rattle.std.proofs.lemmas.List.Sums.{sum_by-append, sum_by-cons}
use Rattle.packet_entry.specs.declared.packet.Card.{Card}
use Rattle.hook_chain.specs.Rules.{RuleTables}
use Rattle.hook_chain.specs.declared.chain.Next.{Next}
use Rattle.hook_chain.specs.declared.chain.Next.TheVariants.{Released, To}
use Rattle.hook_chain.specs.declared.chain.Decision.TheVariants.{Accept}
use Rattle.hook_chain.specs.Route.{next, onward_of}
use Rattle.queue_core.specs.declared.event.Event.{Event}
use Rattle.queue_core.specs.declared.event.Event.TheVariants.{Arrive, Ask, PortClosed, DeviceDown}
use Rattle.queue_core.specs.Holding.{Property, AllLeave}
use Rattle.queue_core.specs.Step.{Way, Gone, Open, Decided, Stepped, step}
use Rattle.histories.specs.declared.entry.Entry.{Entry}
use Rattle.histories.specs.declared.histories.Lost.{Lost}
use Rattle.histories.specs.History.{history, replay}
use Rattle.histories.specs.Holding.{appended}
use Rattle.histories.specs.Moves.{Move, moves_after, move_after}
use Rattle.histories.specs.Journeys.{Arrival, asked_by, asked_by_some, entering, going_on, asks}
use Rattle.histories.specs.Journeys.{came, arrival_of, times_came, AreSound}
use Rattle.fate_ledger.specs.declared.happening.Happening.{Happening}
use Rattle.fate_ledger.specs.declared.fate.Fate.{Fate}
use Rattle.fate_ledger.specs.Fates.{happens, happens_after, happenings_after, departing}
use Rattle.fate_ledger.specs.Fates.{fate_by_request}
use Rattle.fate_ledger.specs.Origins.{IsKept, Asks, AllAsk, Arrives, AllArrive}
use Rattle.fate_ledger.proofs.PacketProperties.{Stays, Fits, Fitting, AllFit, leaving_fits}
use Rattle.fate_ledger.proofs.LastArrivals.{once}

-- ---- by visits

module _ (test : Card → Bool) (Given : List ℕ → Type 0) (kept : IsKept test Given) where
  -- it holds of a packet
  abbrev pub Holds : Property
  Holds c = test c ≡ true

  -- it holds where this is its visit, and where this is its next one
  abbrev At : ℕ → Property
  At visit c = c.visit ≡ visit → test c ≡ true

  abbrev Before : ℕ → Property
  Before visit c = c.visit + 1 ≡ visit → test c ≡ true

  holds_stays : Stays Given Holds
  holds_stays = kept.edits

  before_stays : (visit : ℕ) → Stays Given (Before visit)
  before_stays visit c mark payload priority h fits = λ same.
      kept.edits c mark payload priority (h same) fits

  -- an arrival at this visit of which it doesn't hold
  abbrev wrong : ℕ → Arrival → Bool
  wrong visit a = (a.card.visit == visit) && not (test a.card)

  one_right : (visit : ℕ) (a : Arrival) → At visit a.card → count_by (wrong visit) (a ∷ []) ≡ 0
  one_right visit a holds = by (a.card.visit == visit) refl
    where
      by : (b : Bool) → (a.card.visit == visit) ≡ b → 0 + once (b && not (test a.card)) ≡ 0
      by true same =
          ap (λ t. 0 + once (not t)) (holds (eqb-true a.card.visit visit same))
      by false other = refl

  asked_right : (visit : ℕ) (route : Next) (card : Card) (at : ℕ) →
      (at ≡ visit → test card ≡ true) → count_by (wrong visit) (asked_by route card at) ≡ 0
  asked_right visit Released card at holds = refl
  asked_right visit (To queue bypass table) card at holds =
      one_right visit (record {
        queue = queue;
        card = record card { visit = at; table = table };
        bypass = bypass;
      }) (λ same. kept.moves card at table ∙ holds same)

  some_right : (visit : ℕ) (route : Option Next) (card : Card) (at : ℕ) →
      (at ≡ visit → test card ≡ true) →
      count_by (wrong visit) (asked_by_some route card at) ≡ 0
  some_right visit None card at holds = refl
  some_right visit (Some route) card at holds = asked_right visit route card at holds

  module _ (tables : RuleTables) (key : ℕ) where
    going_right : (visit : ℕ) (card : Card) (way : Way) → Before visit card →
        count_by (wrong visit) (going_on tables key (card, way)) ≡ 0
    going_right visit card Gone holds = refl
    going_right visit card Open holds =
        some_right visit (onward_of tables key card Accept) card (card.visit + 1) holds
    going_right visit card (Decided d) holds =
        some_right visit (onward_of tables key card d) card (card.visit + 1) holds

    asks_right : (visit : ℕ) (ls : List (Card × Way)) → AllLeave (Before visit) ls →
        count_by (wrong visit) (flat_map (going_on tables key) ls) ≡ 0
    asks_right visit [] all = refl
    asks_right visit (l ∷ ls) all =
        omega (
          arith,
          sum_by-append (λ (a : Arrival). cond (wrong visit a) 1 0) (going_on tables key l)
              (flat_map (going_on tables key) ls),
          going_right visit l.0 l.1 all.0,
          asks_right visit ls all.1,
        )

    moves_right : (visit : ℕ) (before es : List Entry) → AllFit Given (Before visit) before →
        AllFit Given (Before visit) es →
        sum_by (λ (m : Move). count_by (wrong visit) (asks tables key m)) (moves_after before es)
        ≡ 0
    moves_right visit before [] so fit = refl
    moves_right visit before (e ∷ es) so fit =
        omega (
          arith,
          sum_by-cons (λ (m : Move). count_by (wrong visit) (asks tables key m))
              (move_after before e) (moves_after (before ++ e ∷ []) es),
          asks_right visit (step (replay (history e.queue before)) e.event).left
              (leaving_fits Given (Before visit) (before_stays visit) before e.queue e.event so
              fit.0),
          moves_right visit (before ++ e ∷ []) es
              (appended (Fitting Given (Before visit)) before (e ∷ []) so (fit.0, tt))
              fit.1,
        )

    entered_right : (visit : ℕ) (entered : List Card) → AllByRecursion Holds entered →
        sum_by (λ (c : Card). count_by (wrong visit) (entering tables key c)) entered ≡ 0
    entered_right visit [] all = refl
    entered_right visit (c ∷ cs) all =
        omega (
          arith,
          sum_by-cons (λ (c : Card). count_by (wrong visit) (entering tables key c)) c cs,
          asked_right visit (next tables key c 1) c 1 (λ same. all.0),
          entered_right visit cs all.1,
        )

    -- where none is wrong, it holds of each arrival at this visit
    came_right : (visit : ℕ) (before es : List Entry) → AllAsk Given es →
        times_came (wrong visit) (moves_after before es) ≡ 0 → AllFit Given (At visit) es
    came_right visit before [] given none = tt
    came_right visit before (e ∷ es) given none =
        let split = sum_by-cons (λ (m : Move). count_by (wrong visit) (came m))
        (move_after before e) (moves_after (before ++ e ∷ []) es) in
        let first : count_by (wrong visit) (arrival_of e.queue e.event) ≡ 0 =
        omega (arith, split, none) in
        let rest : times_came (wrong visit) (moves_after (before ++ e ∷ []) es) ≡ 0 =
        omega (arith, split, none) in
        (by e.queue e.event given.0 first, came_right visit (before ++ e ∷ []) es given.1 rest)
      where
        right : (card : Card) (t : Bool) → test card ≡ t →
            (b : Bool) → b ≡ true → 0 + once (b && not t) ≡ 0 → test card ≡ true
        right card true is b same nothing = is
        right card false is true same nothing = absurd (omega (arith, nothing))
        right card false is false same nothing = absurd cc

        by : (queue : ℕ) (event : Event) → Asks Given event →
            count_by (wrong visit) (arrival_of queue event) ≡ 0 → Fits Given (At visit) event
        by queue (Arrive card bypass room) given nothing = λ same.
            right card (test card) refl (card.visit == visit)
            (eq-eqb card.visit visit same) nothing
        by queue (Ask port call request) given nothing = given
        by queue (PortClosed port) given nothing = tt
        by queue (DeviceDown device) given nothing = tt

    module _ (entered : List Card) (es : List Entry) (lost : List Lost)
        (all : AllByRecursion Holds entered) (given : AllAsk Given es)
        (sound : AreSound tables key entered es lost) where
      at_visit : (visit : ℕ) → AllFit Given (Before visit) es → AllFit Given (At visit) es
      at_visit visit fit =
          came_right visit [] es given (omega (
            arith,
            sound.asked (wrong visit),
            entered_right visit entered all,
            moves_right visit [] es tt fit,
          ))

      weaker : (F G : Property) → ((c : Card) → F c → G c) → (gs : List Entry) →
          AllFit Given F gs → AllFit Given G gs
      weaker F G less [] fit = tt
      weaker F G less (e ∷ gs) fit = (by e.event fit.0, weaker F G less gs fit.1)
        where
          by : (event : Event) → Fits Given F event → Fits Given G event
          by (Arrive card bypass room) is = less card is
          by (Ask port call request) is = is
          by (PortClosed port) is = tt
          by (DeviceDown device) is = tt

      at_first : (gs : List Entry) → AllAsk Given gs → AllFit Given (Before 0) gs
      at_first [] given = tt
      at_first (e ∷ gs) given = (by e.event given.0, at_first gs given.1)
        where
          by : (event : Event) → Asks Given event → Fits Given (Before 0) event
          by (Arrive card bypass room) is = λ same. absurd (omega (arith, same))
          by (Ask port call request) is = is
          by (PortClosed port) is = tt
          by (DeviceDown device) is = tt

      -- at each visit
      at_each : (visit : ℕ) → AllFit Given (At visit) es
      at_each zero = at_visit 0 (at_first es given)
      at_each (suc visit) =
          at_visit (suc visit)
          (weaker (At visit) (Before (suc visit))
          (λ c holds same. holds (omega (arith, same))) es (at_each visit))

      holds_each : (gs : List Entry) → ((visit : ℕ) → AllFit Given (At visit) gs) →
          AllFit Given Holds gs
      holds_each [] fit = tt
      holds_each (e ∷ gs) fit =
          (by e.event (λ visit. (fit visit).0), holds_each gs (λ visit. (fit visit).1))
        where
          by : (event : Event) → ((visit : ℕ) → Fits Given (At visit) event) →
              Fits Given Holds event
          by (Arrive card bypass room) is = is card.visit refl
          by (Ask port call request) is = is 0
          by (PortClosed port) is = tt
          by (DeviceDown device) is = tt

      pub all_hold : AllFit Given Holds es
      all_hold = holds_each es at_each

      arrivals_hold : (gs : List Entry) → AllFit Given Holds gs → AllArrive test gs
      arrivals_hold [] fit = tt
      arrivals_hold (e ∷ gs) fit = (by e.event fit.0, arrivals_hold gs fit.1)
        where
          by : (event : Event) → Fits Given Holds event → Arrives test event
          by (Arrive card bypass room) is = is
          by (Ask port call request) is = tt
          by (PortClosed port) is = tt
          by (DeviceDown device) is = tt

      pub all_arrive : AllArrive test es
      all_arrive = arrivals_hold es all_hold

  -- ---- events

  abbrev pub HoldsOf : Happening → Type 0
  HoldsOf h = test h.card ≡ true

  departing_right : (queue at : ℕ) (fate_by : Way → Fate) (ls : List (Card × Way)) →
      AllLeave Holds ls → AllByRecursion HoldsOf (departing queue at fate_by ls)
  departing_right queue at fate_by [] all = tt
  departing_right queue at fate_by (l ∷ ls) all =
      (all.0, departing_right queue at fate_by ls all.1)

  happens_right : (queue at : ℕ) (event : Event) (s : Stepped) → Fits Given Holds event →
      AllLeave Holds s.left → AllByRecursion HoldsOf (happens queue at event s)
  happens_right queue at (Arrive card bypass room) s fit all = (fit, tt)
  happens_right queue at (Ask port call asked) s fit all =
      departing_right queue at (fate_by_request asked) s.left all
  happens_right queue at (PortClosed port) s fit all =
      departing_right queue at (λ way. _) s.left all
  happens_right queue at (DeviceDown device) s fit all =
      departing_right queue at (λ way. _) s.left all

  both_right : (hs gs : List Happening) → AllByRecursion HoldsOf hs → AllByRecursion HoldsOf gs →
      AllByRecursion HoldsOf (hs ++ gs)
  both_right [] gs one two = two
  both_right (h ∷ hs) gs one two = (one.0, both_right hs gs one.1 two)

  pub happenings_right : (before es : List Entry) → AllFit Given Holds before → AllFit Given Holds es →
      AllByRecursion HoldsOf (happenings_after before es)
  happenings_right before [] so fit = tt
  happenings_right before (e ∷ es) so fit =
      both_right (happens_after before e) (happenings_after (before ++ e ∷ []) es)
      (happens_right e.queue _ e.event (step (replay (history e.queue before)) e.event) fit.0
      (leaving_fits Given Holds holds_stays before e.queue e.event so fit.0))
      (happenings_right (before ++ e ∷ []) es
      (appended (Fitting Given Holds) before (e ∷ []) so (fit.0, tt)) fit.1)
