-- One queue's history, gone over entry by entry.
use Rattle.std.proofs.Common.{◌≡◌, ℕ, ◌+◌, ◌-◌, List, [], ◌∷◌, length, drop, Option, Some, None}
use Rattle.std.proofs.Common.{Bool, true, false, cond, refl, sym, ap, ◌∙◌, subst, arith, drop-drop}
use Rattle.std.proofs.Common.{length-drop}
use Rattle.std.proofs.Math.Path.{fun_ext}
use Rattle.std.specs.Prelude.{◌==◌, ◌↔◌, IsSome, IsTrue, is_some, nat_le}
use Rattle.std.proofs.lemmas.Bool.{leb-true, le-leb, and_from}
use Rattle.queue_core.specs.State.{Bound}
use Rattle.queue_core.specs.Step.{step}
use Rattle.queue_core.specs.declared.event.Event.{Event}
use Rattle.queue_core.specs.declared.event.Event.TheVariants.{Arrive, Ask, PortClosed, DeviceDown}
use Rattle.histories.specs.declared.entry.Entry.{Entry}
use Rattle.histories.specs.History.{IsStep, IsAllowed}
use Rattle.queue_replay.specs.Replays.{port_in}
use Rattle.script_lines.specs.declared.line.Down.{Down}
use Rattle.run_parts.specs.Feeder.{IsNoDown, times_of_event, feeding_time}
use Rattle.feeder_audit.specs.declared.fed.Fed.{Fed}
use Rattle.feeder_audit.specs.declared.ways.Ways.TheVariants.{Nowhere, FromHere}
use Rattle.feeder_audit.specs.Fitting.{Row, FitsBy, IsOpen, Rises, time_at}
use Rattle.feeder_audit.specs.Rows.{only, all, flag_at, row_of, lines_before, fallen}
use Rattle.feeder_audit.specs.Rows.{first_time, IsLeast, HasNone, IsKept, IsFedBy, Follows, Closes}
use Rattle.feeder_audit.specs.Rows.{Stays, Feeds, Falls, FeedsIf, Moves, can_feed}
use Rattle.feeder_audit.proofs.RowMeaning.{both, no_way, here, only_here, pass_goes, pass_came}
use Rattle.feeder_audit.proofs.RowMeaning.{rises_at, rises_fed, quiet_goes, quiet_came, feed_goes}
use Rattle.feeder_audit.proofs.RowMeaning.{feed_came, fall_goes, fall_came, ended, all_put, FellTo}

-- the same in other words
fits_as : (q : Option Bound) (t u : ℕ) (h : List Entry) (ds cs : List Down) (v w : Row) →
    t ≡ u → ds ≡ cs → v ≡ w → FitsBy q t h ds v → FitsBy q u h cs w
fits_as q t u h ds cs v w time lines row fits =
    subst (λ r. FitsBy q u h cs r) row
    (subst (λ es. FitsBy q u h es v) lines
    (subst (λ n. FitsBy q n h ds v) time fits))

-- ---- lines pass

module _ (downs : List Down) (old new : Fed) (kept : IsKept downs old) where
  abbrev left : List Down
  left = drop old.placed downs

  module _ (k : ℕ) (least : IsLeast (row_of old.ways) (length left) k)
      (placed : new.placed ≡ old.placed + k) (time : new.time ≡ time_at old.time left k)
      (ways : new.ways ≡ FromHere) where
    lines : drop new.placed downs ≡ drop k left
    lines = ap (λ n. drop n downs) placed ∙ sym (drop-drop k old.placed downs)

    all_ways : row_of new.ways ≡ all
    all_ways = ap row_of ways

    pub passed : Closes downs None old new
    passed = record {
      kept = record {
        within = omega (arith, placed, least.within, length-drop old.placed downs, kept.within);
        rises = subst (λ ds. Rises new.time ds) (sym lines)
            (subst (λ t. Rises t (drop k left)) (sym time)
            (rises_at k old.time left kept.rises));
      };
      opened = λ none i j is. ap (λ (r : Row). r j) all_ways;
      goes = λ h fits. fits_as None (time_at old.time left k) new.time h (drop k left)
          (drop new.placed downs) all (row_of new.ways) (sym time) (sym lines) (sym all_ways)
          (pass_goes k old.time h left (row_of old.ways) least.before fits);
      came = λ h fits. pass_came k old.time h left (row_of old.ways) least.within least.is
          kept.rises
          (fits_as None new.time (time_at old.time left k) h (drop new.placed downs) (drop k left)
          (row_of new.ways) all time lines all_ways fits);
    }

  module _ (never : HasNone (row_of old.ways) (length left)) (placed : new.placed ≡ old.placed)
      (time : new.time ≡ old.time) (ways : new.ways ≡ Nowhere) where
    no_row : (k : ℕ) → row_of new.ways k ≡ false
    no_row k = ap (λ (r : Row). r k) (ap row_of ways)

    pub nowhere : Closes downs None old new
    nowhere = record {
      kept = record {
        within = omega (arith, placed, kept.within);
        rises = subst (λ n. Rises new.time (drop n downs)) (sym placed)
            (subst (λ t. Rises t left) (sym time) kept.rises);
      };
      opened = λ none i j is. absurd (let wrong : true ≡ false = sym is ∙ no_row i in cc);
      goes = λ h fits. absurd (no_way None old.time h left (row_of old.ways) never fits);
      came = λ h fits. absurd (no_way None new.time h (drop new.placed downs) (row_of new.ways)
          (λ k within. no_row k) fits);
    }

-- whether the queue is absent, its port tells
pub closes_absent : (downs : List Down) (old new : Fed) (port : Option ℕ) →
    is_some port ≡ false → Closes downs None old new → (q : Option Bound) → port ≡ port_in q →
    Closes downs q old new
closes_absent downs old new port absent closes None same = closes
closes_absent downs old new port absent closes (Some b) same =
    absurd (let wrong : true ≡ false = sym (ap is_some same) ∙ absent in cc)

pub closes_bound : (downs : List Down) (f : Fed) (port : Option ℕ) → is_some port ≡ true →
    IsKept downs f → (q : Option Bound) → port ≡ port_in q → Closes downs q f f
closes_bound downs f port bound kept None same =
    absurd (let wrong : false ≡ true = sym (ap is_some same) ∙ bound in cc)
closes_bound downs f port bound kept (Some b) same = record {
  kept = kept;
  opened = λ none. absurd (let wrong : Some b ≡ None = none in cc);
  goes = λ h fits. fits;
  came = λ h fits. fits;
}

-- ---- an entry

module _ (downs : List Down) (q : Option Bound) (old new : Fed) (e : Entry)
    (kept : IsKept downs old) (opened : IsOpen q (row_of old.ways)) where
  abbrev rest : List Down
  rest = drop old.placed downs

  abbrev next : Option Bound
  next = (step q e.event).state

  stays_on : IsNoDown e.event → times_of_event e.event ≡ [] → Stays old new →
      Follows downs q old new e
  stays_on plain timeless stays = record {
    kept = record {
      within = omega (arith, stays.placed, kept.within);
      rises = subst (λ n. Rises new.time (drop n downs)) (sym stays.placed)
          (subst (λ t. Rises t rest) (sym stays.time) kept.rises);
    };
    goes = λ es fits. fits_as next old.time new.time es rest (drop new.placed downs)
        (row_of old.ways) (row_of new.ways) (sym stays.time)
        (sym (ap (λ n. drop n downs) stays.placed)) (sym (ap row_of stays.ways))
        (quiet_goes q e es plain timeless old.time rest (row_of old.ways) opened fits);
    came = λ es fits. quiet_came q e es plain timeless old.time rest (row_of old.ways)
        (fits_as next new.time old.time es (drop new.placed downs) rest (row_of new.ways)
        (row_of old.ways) stays.time (ap (λ n. drop n downs) stays.placed)
        (ap row_of stays.ways) fits);
  }

  feeds_on : (n : ℕ) → IsNoDown e.event →
      times_of_event e.event ≡ feeding_time n ∷ (feeding_time n + 1) ∷ [] →
      Feeds downs n old new → Follows downs q old new e
  feeds_on n plain times feeds = record {
    kept = record {
      within = feeds.within;
      rises = subst (λ ds. Rises new.time ds) (sym lines)
          (subst (λ t. Rises t (drop k rest)) (sym feeds.time) (rises_fed n old.time rest kept.rises));
    };
    goes = λ es fits.
        let fed = feed_goes q e es n plain times old.time rest (row_of old.ways) opened
        kept.rises fits in
        fits_as next (feeding_time n + 1) new.time es (drop k rest) (drop new.placed downs)
        (only can) (row_of new.ways) (sym feeds.time) (sym lines) (sym feeds.row)
        (here next (feeding_time n + 1) es (drop k rest) (only can)
        (and_from (nat_le old.time (feeding_time n)) (row_of old.ways k)
        (le-leb old.time (feeding_time n) fed.0) fed.1) fed.2);
    came = λ es fits.
        let fed = only_here next (feeding_time n + 1) es (drop k rest) can
        (fits_as next new.time (feeding_time n + 1) es (drop new.placed downs)
        (drop k rest) (row_of new.ways) (only can) feeds.time lines feeds.row fits) in
        let are = both (nat_le old.time (feeding_time n)) (row_of old.ways k) fed.0 in
        feed_came q e es n plain times old.time rest (row_of old.ways)
        (leb-true old.time (feeding_time n) are.0, are.1, fed.1);
  }
    where
      k : ℕ
      k = lines_before n rest

      can : Bool
      can = can_feed rest n old

      lines : drop new.placed downs ≡ drop k rest
      lines = ap (λ m. drop m downs) feeds.placed ∙ sym (drop-drop k old.placed downs)

counted : (row : Row) (k : ℕ) → row k ≡ row (0 + k)
counted row k = ap row (let same : k ≡ 0 + k = omega arith in same)

-- a device goes down at a bound queue
down_goes : (q : Option Bound) → IsSome q → (e : Entry) (es : List Entry) (device t : ℕ)
    (ds : List Down) (row : Row) → e.event ≡ DeviceDown device → FitsBy q t (e ∷ es) ds row →
    FitsBy (step q e.event).state (first_time t ds) es (drop 1 ds) (flag_at (fallen device ds row 0))
down_goes None some e es device t ds row is fits = absurd (let wrong : false ≡ true = some in cc)
down_goes (Some b) some e es device t ds row is fits =
    to_rest ds (flag_at (fallen device ds row 0))
    (fall_goes b e es device is t ds row row 0 (counted row) fits)
  where
    to_rest : (cs : List Down) (r : Row) → FellTo (step (Some b) e.event).state es cs r →
        FitsBy (step (Some b) e.event).state (first_time t cs) es (drop 1 cs) r
    to_rest [] r fell = absurd fell
    to_rest (c ∷ cs) r fell = fell

down_came : (q : Option Bound) → IsSome q → (e : Entry) (es : List Entry) (device t : ℕ)
    (ds : List Down) (row : Row) → e.event ≡ DeviceDown device → Rises t ds →
    FitsBy (step q e.event).state (first_time t ds) es (drop 1 ds) (flag_at (fallen device ds row 0)) →
    FitsBy q t (e ∷ es) ds row
down_came None some e es device t ds row is rises fits = absurd (let wrong : false ≡ true = some in cc)
down_came (Some b) some e es device t [] row is rises fits =
    absurd (no_way (step (Some b) e.event).state t es [] (flag_at []) (λ k within. refl) fits)
down_came (Some b) some e es device t (d ∷ ds) row is rises fits =
    fall_came b e es device is t (d ∷ ds) row row 0 (counted row) rises fits

rises_first : (t : ℕ) (ds : List Down) → Rises t ds → Rises (first_time t ds) (drop 1 ds)
rises_first t [] rises = tt
rises_first t (d ∷ ds) rises = rises.1

falls_on : (downs : List Down) (q : Option Bound) (old new : Fed) (e : Entry) (device : ℕ) →
    IsKept downs old → IsSome q → e.event ≡ DeviceDown device → Falls downs device old new →
    Follows downs q old new e
falls_on downs q old new e device kept some is falls =
    let rest : List Down = drop old.placed downs in
    let next : Option Bound = (step q e.event).state in
    let flags : Row = flag_at (fallen device rest (row_of old.ways) 0) in
    let row : row_of new.ways ≡ flags = fun_ext falls.row in record {
      kept = record {
        within = falls.within;
        rises = subst (λ ds. Rises new.time ds) (sym falls.left)
            (subst (λ t. Rises t (drop 1 rest)) (sym falls.time)
            (rises_first old.time rest kept.rises));
      };
      goes = λ es fits. fits_as next (first_time old.time rest) new.time es (drop 1 rest)
          (drop new.placed downs) flags (row_of new.ways) (sym falls.time) (sym falls.left)
          (sym row)
          (down_goes q some e es device old.time rest (row_of old.ways) is fits);
      came = λ es fits. down_came q some e es device old.time rest (row_of old.ways) is
          kept.rises
          (fits_as next new.time (first_time old.time rest) es (drop new.placed downs)
          (drop 1 rest) (row_of new.ways) flags falls.time falls.left row fits);
    }

moves_on : (downs : List Down) (q : Option Bound) (old new : Fed) (e : Entry) (event : Event) →
    e.event ≡ event → IsKept downs old → IsOpen q (row_of old.ways) → IsAllowed q event →
    Moves downs old new event → Follows downs q old new e
moves_on downs q old new e (Arrive card bypass room) is kept opened allowed moves =
    by (card.visit == 1) refl moves
  where
    by : (b : Bool) → card.visit == 1 ≡ b → FeedsIf b downs card.number old new →
        Follows downs q old new e
    by true first feeds =
        feeds_on downs q old new e kept opened card.number (subst IsNoDown (sym is) tt)
        (ap times_of_event is
        ∙ ap (λ b. cond b (feeding_time card.number ∷ (feeding_time card.number + 1) ∷ []) [])
        first) feeds
    by false later stays =
        stays_on downs q old new e kept opened (subst IsNoDown (sym is) tt)
        (ap times_of_event is
        ∙ ap (λ b. cond b (feeding_time card.number ∷ (feeding_time card.number + 1) ∷ []) [])
        later) stays
moves_on downs q old new e (Ask port call request) is kept opened allowed moves =
    stays_on downs q old new e kept opened (subst IsNoDown (sym is) tt) (ap times_of_event is) moves
moves_on downs q old new e (PortClosed port) is kept opened allowed moves =
    stays_on downs q old new e kept opened (subst IsNoDown (sym is) tt) (ap times_of_event is) moves
moves_on downs q old new e (DeviceDown device) is kept opened allowed moves =
    falls_on downs q old new e device kept allowed is moves

-- ---- the whole step

pub followed : (downs : List Down) (q : Option Bound) (old mid new : Fed) (e : Entry) →
    Closes downs q old mid → Moves downs mid new e.event → IsStep q e → Follows downs q old new e
followed downs q old mid new e closes moves is =
    let on : Follows downs q mid new e =
    moves_on downs q mid new e e.event refl closes.kept closes.opened is.allowed moves in record {
      kept = on.kept;
      goes = λ es fits. on.goes es (closes.goes (e ∷ es) fits);
      came = λ es fits. closes.came (e ∷ es) (on.came es fits);
    }

-- ---- the end

pub whole_is : (downs : List Down) (q : Option Bound) (old mid : Fed) → Closes downs q old mid →
    (b : Bool) → b ≡ row_of mid.ways (length downs - mid.placed) → IsTrue b ↔ IsFedBy downs q old []
whole_is downs q old mid closes b is = (
  λ true_is. closes.came [] (all_put q mid.time (drop mid.placed downs) (row_of mid.ways)
      (ap (row_of mid.ways) (length-drop mid.placed downs) ∙ sym is ∙ true_is)),
  λ fits. is ∙ ap (row_of mid.ways) (sym (length-drop mid.placed downs))
      ∙ ended q mid.time (drop mid.placed downs) (row_of mid.ways) closes.opened
      (closes.goes [] fits),
)
