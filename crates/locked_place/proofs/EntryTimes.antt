-- Entries with their times.
use Rattle.std.proofs.Common.{◌≡◌, ◌≤◌, ◌<◌, ◌-◌, ℕ, List, [], ◌∷◌, ◌++◌, length, refl, sym, ap}
use Rattle.std.proofs.Common.{◌∙◌, arith, le_trans, le_refl}
use Rattle.std.specs.Prelude.{map, replicate}
use Rattle.std.proofs.lemmas.List.{map-append, length-append}
use mathlib.Core.List.{IsPrefix}
use Rattle.total_order.specs.Orders.{EachIs, untimed}
use Rattle.histories.specs.declared.entry.Entry.{Entry}
use Rattle.locked_place.specs.Times.{timed, all_at, Rise, AreTimed}

-- ---- times that never descend

pub low_high : (low : ℕ) (ts : List ℕ) (high : ℕ) → Rise low ts high → low ≤ high
low_high low [] high r = r
low_high low (t ∷ ts) high r = le_trans r.0 (low_high t ts high r.1)

-- a later bound
pub rise_up : (low : ℕ) (ts : List ℕ) (high time : ℕ) → Rise low ts high → high ≤ time →
    Rise low ts time
rise_up low [] high time r l = le_trans r l
rise_up low (t ∷ ts) high time r l = (r.0, rise_up t ts high time r.1 l)

module _ {A : Type 0} where
  rise_same : (low time : ℕ) (more : List A) → low ≤ time → Rise low (map (λ e. time) more) time
  rise_same low time [] l = l
  rise_same low time (x ∷ more) l = (l, rise_same time time more (le_refl time))

  -- more of them, at one time
  pub rise_on : (low : ℕ) (ts : List ℕ) (high time : ℕ) (more : List A) → Rise low ts high →
      high ≤ time → Rise low (ts ++ map (λ e. time) more) time
  rise_on low [] high time more r l = rise_same low time more (le_trans r l)
  rise_on low (t ∷ ts) high time more r l = (r.0, rise_on t ts high time more r.1 l)

  -- what has times up to a bound is earlier than what is beyond it
  pub early : (xs : List A) (low : ℕ) (ts : List ℕ) (high time : ℕ) → Rise low ts high →
      high < time → EachIs (λ x. x.1 < time) (timed xs ts)
  early [] low ts high time r l = tt
  early (x ∷ xs) low [] high time r l = tt
  early (x ∷ xs) low (t ∷ ts) high time r l =
      let below = low_high t ts high r.1 in
      (omega (arith, below, l), early xs t ts high time r.1 l)

  -- ---- lists with times
  all_timed : (t : ℕ) (more : List A) → timed more (map (λ e. t) more) ≡ all_at t more
  all_timed t [] = refl
  all_timed t (x ∷ more) = ap (λ xs. (x, t) ∷ xs) (all_timed t more)

  pub timed_on : (xs : List A) (ts : List ℕ) (t : ℕ) (more : List A) → length ts ≡ length xs →
      timed (xs ++ more) (ts ++ map (λ e. t) more) ≡ timed xs ts ++ all_at t more
  timed_on [] [] t more e = all_timed t more
  timed_on [] (u ∷ ts) t more e = absurd (omega (arith, e))
  timed_on (x ∷ xs) [] t more e = absurd (omega (arith, e))
  timed_on (x ∷ xs) (u ∷ ts) t more e =
      ap (λ zs. (x, u) ∷ zs) (timed_on xs ts t more (omega (arith, e)))

  -- without their times they are the same
  pub untimed_timed : (xs : List A) (ts : List ℕ) → length ts ≡ length xs →
      untimed (timed xs ts) ≡ xs
  untimed_timed [] ts e = refl
  untimed_timed (x ∷ xs) [] e = absurd (omega (arith, e))
  untimed_timed (x ∷ xs) (t ∷ ts) e =
      ap (λ zs. x ∷ zs) (untimed_timed xs ts (omega (arith, e)))

  pub untimed_all : (t : ℕ) (more : List A) → untimed (all_at t more) ≡ more
  untimed_all t [] = refl
  untimed_all t (x ∷ more) = ap (λ zs. x ∷ zs) (untimed_all t more)

  -- there are as many
  pub length_timed : (xs : List A) (ts : List ℕ) → length ts ≡ length xs →
      length (timed xs ts) ≡ length xs
  length_timed [] ts e = refl
  length_timed (x ∷ xs) [] e = absurd (omega (arith, e))
  length_timed (x ∷ xs) (t ∷ ts) e =
      let rest = length_timed xs ts (omega (arith, e)) in omega (arith, rest)

  pub length_all : (t : ℕ) (more : List A) → length (map (λ (e : A). t) more) ≡ length more
  length_all t [] = refl
  length_all t (x ∷ more) = let rest = length_all t more in omega (arith, rest)

  pub prefix_untimed : (xs ys : List (A × ℕ)) → IsPrefix xs ys →
      IsPrefix (untimed xs) (untimed ys)
  prefix_untimed xs ys p = (untimed p.0, sym (map-append (λ x. x.0) xs p.0) ∙ ap untimed p.1)

  -- one time for each
  pub one_time_each : (t : ℕ) (more : List A) → replicate (length more) t ≡ map (λ e. t) more
  one_time_each t [] = refl
  one_time_each t (x ∷ more) = ap (λ ts. t ∷ ts) (one_time_each t more)

  pub times_beyond : (t before : ℕ) (all old more : List A) → length old ≡ before →
      all ≡ old ++ more → replicate (length all - before) t ≡ map (λ e. t) more
  times_beyond t before all old more len on =
      let many : length all - before ≡ length more =
      omega (arith, len, ap length on, length-append old more) in
      ap (λ n. replicate n t) many ∙ one_time_each t more

-- ---- places

-- more entries, all at the latest time
pub in_time_on : (es : List Entry) (ts : List ℕ) (latest : ℕ) (more : List Entry) →
    AreTimed es ts latest → AreTimed (es ++ more) (ts ++ map (λ e. latest) more) latest
in_time_on es ts latest more timely = record {
  as_many = length-append ts (map (λ (e : Entry). latest) more)
      ∙ omega (
        arith,
        timely.as_many,
        length_all latest more,
        length-append es more,
      );
  rise = rise_on 0 ts latest latest more timely.rise (le_refl latest);
}

-- a later bound
pub in_time_up : (es : List Entry) (ts : List ℕ) (latest time : ℕ) → AreTimed es ts latest →
    latest ≤ time → AreTimed es ts time
in_time_up es ts latest time timely l = record {
  as_many = timely.as_many;
  rise = rise_up 0 ts latest time timely.rise l;
}
