-- What a row of ways means stays the same as lines pass and entries are gone over.
use Rattle.std.proofs.Common.{◌≡◌, ◌≤◌, ◌<◌, ℕ, zero, suc, ◌+◌, List, [], ◌∷◌, length, drop}
use Rattle.std.proofs.Common.{Option, Some, None, Bool, true, false, cond, refl, sym, ap, ◌∙◌}
use Rattle.std.proofs.Common.{subst}
use Rattle.std.proofs.Common.{arith, inl, inr}
use Rattle.std.specs.Prelude.{nat_lt, ◌==◌, ◌&&◌}
use Rattle.std.proofs.lemmas.Bool.{ltb-true, ltb-false, lt-ltb, le-ltb, eq-eqb, eqb-true}
use Rattle.queue_core.specs.State.{Bound}
use Rattle.queue_core.specs.Step.{step}
use Rattle.queue_core.specs.declared.event.Event.TheVariants.{DeviceDown}
use Rattle.histories.specs.declared.entry.Entry.{Entry}
use Rattle.script_lines.specs.declared.line.Down.{Down}
use Rattle.run_parts.specs.Ascending.{AscendFrom}
use Rattle.run_parts.specs.Feeder.{IsNoDown, times_of_event, feeding_time, falling_time}
use Rattle.feeder_audit.specs.Fitting.{last_of, Fits, Row, behind, FitsBy, IsOpen, Rises, time_at}
use Rattle.feeder_audit.specs.Rows.{only, none, all, flag_at, lines_before, fallen}

pub not_both : (b : Bool) → b ≡ true → b ≡ false → ⊥
not_both b is other = let wrong : true ≡ false = sym is ∙ other in cc

pub both : (a b : Bool) → (a && b) ≡ true → (a ≡ true) × (b ≡ true)
both true b are = (refl, are)
both false b are = absurd (let wrong : false ≡ true = are in cc)

-- ---- one way

-- what is put in next is no earlier
last_late : (u : ℕ) (xs : List ℕ) → AscendFrom u xs → u ≤ last_of u xs
last_late u [] ascend = omega arith
last_late u (x ∷ xs) ascend = omega (arith, ascend.0, last_late x xs ascend.1)

first_late : (es : List Entry) (q : Option Bound) (u : ℕ) (d : Down) (ds : List Down) →
    Fits q u (d ∷ ds) es → u ≤ falling_time d.after
first_late [] q u d ds fits = fits.1
first_late (e ∷ es) q u d ds (inl was) =
    omega (
      arith,
      last_late u (times_of_event e.event) was.1,
      first_late es (step q e.event).state (last_of u (times_of_event e.event)) d ds was.2,
    )
first_late (e ∷ es) q u d ds (inr (inl fell)) = fell.1
first_late (e ∷ es) q u d ds (inr (inr pass)) = pass.1

-- an entry that is no line's is gone over, whatever lines are left
pub was_fits : (q : Option Bound) (t : ℕ) (ds : List Down) (e : Entry) (es : List Entry) →
    IsNoDown e.event → AscendFrom t (times_of_event e.event) →
    Fits (step q e.event).state (last_of t (times_of_event e.event)) ds es →
    Fits q t ds (e ∷ es)
was_fits q t [] e es plain ascend fits = (plain, ascend, fits)
was_fits q t (d ∷ ds) e es plain ascend fits = inl (plain, ascend, fits)

-- a line passes where the queue is absent
pub passes : (q : Option Bound) (t : ℕ) (d : Down) (ds : List Down) (h : List Entry) → q ≡ None →
    t ≤ falling_time d.after → Fits q (falling_time d.after) ds h → Fits q t (d ∷ ds) h
passes q t d ds [] none late fits = (none, late, fits)
passes q t d ds (e ∷ es) none late fits = inr (inr (none, late, fits))

-- ---- rows

pub here : (q : Option Bound) (t : ℕ) (h : List Entry) (ds : List Down) (row : Row) →
    row zero ≡ true → Fits q t ds h → FitsBy q t h ds row
here q t h [] row is fits = (is, fits)
here q t h (d ∷ ds) row is fits = inl (is, fits)

pub no_way : (q : Option Bound) (t : ℕ) (h : List Entry) (ds : List Down) (row : Row) →
    ((k : ℕ) → k ≤ length ds → row k ≡ false) → FitsBy q t h ds row → ⊥
no_way q t h [] row never fits = not_both (row zero) fits.0 (never zero (omega arith))
no_way q t h (d ∷ ds) row never (inl way) = not_both (row zero) way.0 (never zero (omega arith))
no_way q t h (d ∷ ds) row never (inr rest) =
    no_way q (falling_time d.after) h ds (behind row)
    (λ k within. never (suc k) (omega (arith, within))) rest

pub only_here : (q : Option Bound) (t : ℕ) (h : List Entry) (ds : List Down) (b : Bool) →
    FitsBy q t h ds (only b) → (b ≡ true) × Fits q t ds h
only_here q t h [] b fits = fits
only_here q t h (d ∷ ds) b (inl way) = way
only_here q t h (d ∷ ds) b (inr rest) =
    absurd (no_way q (falling_time d.after) h ds (behind (only b)) (λ k within. refl) rest)

open_behind : (q : Option Bound) (row : Row) → IsOpen q row → IsOpen q (behind row)
open_behind q row opens = λ none j k is. opens none (suc j) (suc k) is

-- ---- lines pass

any_more : (q : Option Bound) (t : ℕ) (h : List Entry) (ds : List Down) (row : Row) →
    FitsBy q t h ds row → FitsBy q t h ds all
any_more q t h [] row fits = (refl, fits.1)
any_more q t h (d ∷ ds) row (inl way) = inl (refl, way.1)
any_more q t h (d ∷ ds) row (inr rest) =
    inr (any_more q (falling_time d.after) h ds (behind row) rest)

-- where the queue is absent, those behind the first are reached from it
pub from_first : (t : ℕ) (h : List Entry) (ds : List Down) → Rises t ds → FitsBy None t h ds all →
    Fits None t ds h
from_first t h [] rises fits = fits.1
from_first t h (d ∷ ds) rises (inl way) = way.1
from_first t h (d ∷ ds) rises (inr rest) =
    passes None t d ds h refl rises.0 (from_first (falling_time d.after) h ds rises.1 rest)

pub all_open : (t : ℕ) (h : List Entry) (ds : List Down) → Fits None t ds h →
    FitsBy None t h ds all
all_open t h ds fits = here None t h ds all refl fits

pub pass_goes : (k t : ℕ) (h : List Entry) (ds : List Down) (row : Row) →
    ((j : ℕ) → j < k → row j ≡ false) → FitsBy None t h ds row →
    FitsBy None (time_at t ds k) h (drop k ds) all
pass_goes zero t h ds row before fits = any_more None t h ds row fits
pass_goes (suc k) t h [] row before fits =
    absurd (not_both (row zero) fits.0 (before zero (omega arith)))
pass_goes (suc k) t h (d ∷ ds) row before (inl way) =
    absurd (not_both (row zero) way.0 (before zero (omega arith)))
pass_goes (suc k) t h (d ∷ ds) row before (inr rest) =
    pass_goes k (falling_time d.after) h ds (behind row)
    (λ j less. before (suc j) (omega (arith, less))) rest

at_place : (k : ℕ) (q : Option Bound) (t : ℕ) (h : List Entry) (ds : List Down) (row : Row) →
    k ≤ length ds → row k ≡ true → Fits q (time_at t ds k) (drop k ds) h → FitsBy q t h ds row
at_place zero q t h ds row within is fits = here q t h ds row is fits
at_place (suc k) q t h [] row within is fits = absurd (omega (arith, within))
at_place (suc k) q t h (d ∷ ds) row within is fits =
    inr (at_place k q (falling_time d.after) h ds (behind row) (omega (arith, within)) is fits)

pub rises_at : (k t : ℕ) (ds : List Down) → Rises t ds → Rises (time_at t ds k) (drop k ds)
rises_at zero t ds rises = rises
rises_at (suc k) t [] rises = tt
rises_at (suc k) t (d ∷ ds) rises = rises_at k (falling_time d.after) ds rises.1

pub pass_came : (k t : ℕ) (h : List Entry) (ds : List Down) (row : Row) → k ≤ length ds →
    row k ≡ true → Rises t ds → FitsBy None (time_at t ds k) h (drop k ds) all →
    FitsBy None t h ds row
pass_came k t h ds row within is rises fits =
    at_place k None t h ds row within is
    (from_first (time_at t ds k) h (drop k ds) (rises_at k t ds rises) fits)

-- ---- an entry without a time

module _ (q : Option Bound) (e : Entry) (es : List Entry) (plain : IsNoDown e.event)
    (timeless : times_of_event e.event ≡ []) where
  abbrev quiet : Option Bound
  quiet = (step q e.event).state

  same_time : (t : ℕ) → last_of t (times_of_event e.event) ≡ t
  same_time t = ap (last_of t) timeless

  pub quiet_goes : (t : ℕ) (ds : List Down) (row : Row) → IsOpen q row →
      FitsBy q t (e ∷ es) ds row → FitsBy quiet t es ds row
  quiet_goes t [] row opens fits =
      (fits.0, subst (λ u. Fits quiet u [] es) (same_time t) fits.1.2)
  quiet_goes t (d ∷ ds) row opens (inl (is, inl was)) =
      inl (is, subst (λ u. Fits quiet u (d ∷ ds) es) (same_time t) was.2)
  quiet_goes t (d ∷ ds) row opens (inl (is, inr (inl fell))) = absurd (subst IsNoDown fell.0 plain)
  quiet_goes t (d ∷ ds) row opens (inl (is, inr (inr pass))) =
      inr (quiet_goes (falling_time d.after) ds (behind row) (open_behind q row opens)
      (here q (falling_time d.after) (e ∷ es) ds (behind row) (opens pass.0 0 1 is) pass.2))
  quiet_goes t (d ∷ ds) row opens (inr rest) =
      inr (quiet_goes (falling_time d.after) ds (behind row) (open_behind q row opens) rest)

  pub quiet_came : (t : ℕ) (ds : List Down) (row : Row) → FitsBy quiet t es ds row →
      FitsBy q t (e ∷ es) ds row
  quiet_came t [] row fits = (
    fits.0,
    was_fits q t [] e es plain (subst (AscendFrom t) (sym timeless) tt)
        (subst (λ u. Fits quiet u [] es) (sym (same_time t)) fits.1),
  )
  quiet_came t (d ∷ ds) row (inl way) = inl (
    way.0,
    was_fits q t (d ∷ ds) e es plain (subst (AscendFrom t) (sym timeless) tt)
        (subst (λ u. Fits quiet u (d ∷ ds) es) (sym (same_time t)) way.1),
  )
  quiet_came t (d ∷ ds) row (inr rest) =
      inr (quiet_came (falling_time d.after) ds (behind row) rest)

-- ---- a packet that arrives for the first time

pub rises_fed : (n t : ℕ) (ds : List Down) → Rises t ds →
    Rises (feeding_time n + 1) (drop (lines_before n ds) ds)
rises_fed n t [] rises = tt
rises_fed n t (d ∷ ds) rises =
    by (nat_lt d.after n) refl (rises_fed n (falling_time d.after) ds rises.1)
  where
    by : (b : Bool) → nat_lt d.after n ≡ b →
        Rises (feeding_time n + 1) (drop (lines_before n ds) ds) →
        Rises (feeding_time n + 1) (drop (cond b (suc (lines_before n ds)) zero) (d ∷ ds))
    by true less rest = rest
    by false more rest = (omega (arith, ltb-false d.after n more), rises.1)

module _ (q : Option Bound) (e : Entry) (es : List Entry) (n : ℕ) (plain : IsNoDown e.event)
    (times : times_of_event e.event ≡ feeding_time n ∷ (feeding_time n + 1) ∷ []) where
  abbrev fed : Option Bound
  fed = (step q e.event).state

  in_time : (t : ℕ) → AscendFrom t (times_of_event e.event) → t ≤ feeding_time n
  in_time t ascend = (subst (AscendFrom t) times ascend).0

  ascends : (t : ℕ) → t ≤ feeding_time n → AscendFrom t (times_of_event e.event)
  ascends t less = subst (AscendFrom t) (sym times) (less, (omega arith, tt))

  time_then : (t : ℕ) → last_of t (times_of_event e.event) ≡ feeding_time n + 1
  time_then t = ap (last_of t) times

  -- just the lines before this frame are put in
  abbrev IsFedThen : ℕ → List Down → Row → ℕ → Type 0
  IsFedThen t ds row k =
      (t ≤ feeding_time n) × (row k ≡ true) × Fits fed (feeding_time n + 1) (drop k ds) es

  deeper : (t : ℕ) (d : Down) (ds : List Down) (row : Row) → t ≤ falling_time d.after →
      IsFedThen (falling_time d.after) ds (behind row) (lines_before n ds) →
      IsFedThen t (d ∷ ds) row (lines_before n (d ∷ ds))
  deeper t d ds row late then_fed =
      subst (IsFedThen t (d ∷ ds) row)
      (sym (ap (λ b. cond b (suc (lines_before n ds)) zero)
      (lt-ltb d.after n (omega (arith, then_fed.0)))))
      (omega (arith, late, then_fed.0), then_fed.1, then_fed.2)

  pub feed_goes : (t : ℕ) (ds : List Down) (row : Row) → IsOpen q row → Rises t ds →
      FitsBy q t (e ∷ es) ds row → IsFedThen t ds row (lines_before n ds)
  feed_goes t [] row opens rises fits = (
    in_time t fits.1.1,
    fits.0,
    subst (λ u. Fits fed u [] es) (time_then t) fits.1.2,
  )
  feed_goes t (d ∷ ds) row opens rises (inl (is, inl was)) =
      let rest : Fits fed (feeding_time n + 1) (d ∷ ds) es =
      subst (λ u. Fits fed u (d ∷ ds) es) (time_then t) was.2 in
      subst (IsFedThen t (d ∷ ds) row)
      (sym (ap (λ b. cond b (suc (lines_before n ds)) zero)
      (le-ltb d.after n (omega (arith, first_late es fed (feeding_time n + 1) d ds rest)))))
      (in_time t was.1, is, rest)
  feed_goes t (d ∷ ds) row opens rises (inl (is, inr (inl fell))) =
      absurd (subst IsNoDown fell.0 plain)
  feed_goes t (d ∷ ds) row opens rises (inl (is, inr (inr pass))) =
      deeper t d ds row rises.0
      (feed_goes (falling_time d.after) ds (behind row) (open_behind q row opens) rises.1
      (here q (falling_time d.after) (e ∷ es) ds (behind row) (opens pass.0 0 1 is) pass.2))
  feed_goes t (d ∷ ds) row opens rises (inr rest) =
      deeper t d ds row rises.0
      (feed_goes (falling_time d.after) ds (behind row) (open_behind q row opens) rises.1 rest)

  pub feed_came : (t : ℕ) (ds : List Down) (row : Row) →
      IsFedThen t ds row (lines_before n ds) → FitsBy q t (e ∷ es) ds row
  feed_came t [] row then_fed = (
    then_fed.1,
    was_fits q t [] e es plain (ascends t then_fed.0)
        (subst (λ u. Fits fed u [] es) (sym (time_then t)) then_fed.2),
  )
  feed_came t (d ∷ ds) row then_fed =
      by (nat_lt d.after n) refl then_fed (feed_came (falling_time d.after) ds (behind row))
    where
      by : (b : Bool) → nat_lt d.after n ≡ b →
          IsFedThen t (d ∷ ds) row (cond b (suc (lines_before n ds)) zero) →
          (IsFedThen (falling_time d.after) ds (behind row) (lines_before n ds) →
          FitsBy q (falling_time d.after) (e ∷ es) ds (behind row)) →
          FitsBy q t (e ∷ es) (d ∷ ds) row
      by true less is rest =
          inr (rest (omega (arith, ltb-true d.after n less), is.1, is.2))
      by false more is rest = inl (
        is.1,
        was_fits q t (d ∷ ds) e es plain (ascends t is.0)
            (subst (λ u. Fits fed u (d ∷ ds) es) (sym (time_then t)) is.2),
      )

-- ---- a device that goes down

-- the lines behind the first can be put in
abbrev pub FellTo : Option Bound → List Entry → List Down → Row → Type 0
FellTo q h [] row = ⊥
FellTo q h (d ∷ ds) row = FitsBy q (falling_time d.after) h ds row

further : (q : Option Bound) (t : ℕ) (h : List Entry) (ds : List Down) (b : Bool)
    (flags : List Bool) → FellTo q h ds (flag_at flags) → FitsBy q t h ds (flag_at (b ∷ flags))
further q t h [] b flags fits = absurd fits
further q t h (d ∷ ds) b flags fits = inr fits

module _ (b : Bound) (e : Entry) (es : List Entry) (device : ℕ) (is : e.event ≡ DeviceDown device)
  where
    abbrev next : Option Bound
    next = (step (Some b) e.event).state

    no_other : IsNoDown e.event → ⊥
    no_other plain = subst IsNoDown is plain

    not_absent : Some b ≡ None → ⊥
    not_absent none = let wrong : Some b ≡ None = none in cc

    of_device : (d : Down) → e.event ≡ DeviceDown d.device → d.device ≡ device
    of_device d by = let same : DeviceDown d.device ≡ DeviceDown device = sym by ∙ is in cc

    same_behind : (row back : Row) (at : ℕ) → ((k : ℕ) → row k ≡ back (at + k)) → (k : ℕ) →
        behind row k ≡ back ((at + 1) + k)
    same_behind row back at same k =
        same (suc k) ∙ ap back (let more : at + suc k ≡ (at + 1) + k = omega arith in more)

    same_first : (row back : Row) (at : ℕ) → ((k : ℕ) → row k ≡ back (at + k)) →
        row zero ≡ back at
    same_first row back at same =
        same zero ∙ ap back (let first : at + zero ≡ at = omega arith in first)

    pub fall_goes : (t : ℕ) (ds : List Down) (row back : Row) (at : ℕ) →
        ((k : ℕ) → row k ≡ back (at + k)) → FitsBy (Some b) t (e ∷ es) ds row →
        FellTo next es ds (flag_at (fallen device ds back at))
    fall_goes t [] row back at same fits = absurd (no_other fits.1.0)
    fall_goes t (d ∷ ds) row back at same (inl (way, inl was)) = absurd (no_other was.0)
    fall_goes t (d ∷ ds) row back at same (inl (way, inr (inl fell))) =
        here next (falling_time d.after) es ds (flag_at (fallen device (d ∷ ds) back at))
        (ap (λ c. c && back at) (eq-eqb d.device device (of_device d fell.0))
        ∙ sym (same_first row back at same) ∙ way) fell.2
    fall_goes t (d ∷ ds) row back at same (inl (way, inr (inr pass))) =
        absurd (not_absent pass.0)
    fall_goes t (d ∷ ds) row back at same (inr rest) =
        further next (falling_time d.after) es ds ((d.device == device) && back at)
        (fallen device ds back (at + 1))
        (fall_goes (falling_time d.after) ds (behind row) back (at + 1)
        (same_behind row back at same) rest)

    -- the first line is the device's
    by_first : (t : ℕ) (d : Down) (ds : List Down) (row back : Row) (at : ℕ) →
        ((k : ℕ) → row k ≡ back (at + k)) → t ≤ falling_time d.after →
        ((d.device == device) && back at) ≡ true → Fits next (falling_time d.after) ds es →
        (row zero ≡ true) × Fits (Some b) t (d ∷ ds) (e ∷ es)
    by_first t d ds row back at same late flag fits =
        let are = both (d.device == device) (back at) flag in (
          same_first row back at same ∙ are.1,
          inr (inl (
            is ∙ ap (λ n. DeviceDown n) (sym (eqb-true d.device device are.0)),
            late,
            fits,
          )),
        )

    pub fall_came : (t : ℕ) (ds : List Down) (row back : Row) (at : ℕ) →
        ((k : ℕ) → row k ≡ back (at + k)) → Rises t ds →
        FellTo next es ds (flag_at (fallen device ds back at)) →
        FitsBy (Some b) t (e ∷ es) ds row
    fall_came t [] row back at same rises fits = absurd fits
    fall_came t (d ∷ []) row back at same rises fits =
        inl (by_first t d [] row back at same rises.0 fits.0 fits.1)
    fall_came t (d ∷ c ∷ ds) row back at same rises (inl way) =
        inl (by_first t d (c ∷ ds) row back at same rises.0 way.0 way.1)
    fall_came t (d ∷ c ∷ ds) row back at same rises (inr rest) =
        inr (fall_came (falling_time d.after) (c ∷ ds) (behind row) back (at + 1)
        (same_behind row back at same) rises.1 rest)

-- ---- the end of a history

pub ended : (q : Option Bound) (t : ℕ) (ds : List Down) (row : Row) → IsOpen q row →
    FitsBy q t [] ds row → row (length ds) ≡ true
ended q t [] row opens fits = fits.0
ended q t (d ∷ ds) row opens (inl way) = opens way.1.0 0 (length (d ∷ ds)) way.0
ended q t (d ∷ ds) row opens (inr rest) =
    ended q (falling_time d.after) ds (behind row) (open_behind q row opens) rest

pub all_put : (q : Option Bound) (t : ℕ) (ds : List Down) (row : Row) → row (length ds) ≡ true →
    FitsBy q t [] ds row
all_put q t [] row is = (is, tt)
all_put q t (d ∷ ds) row is = inr (all_put q (falling_time d.after) ds (behind row) is)
