-- What a port's pass keeps of times, open or closed.
use Rattle.std.proofs.Common.{ℕ, List, Bool, true, false}
use Rattle.std.specs.Prelude.{MatchBool}
use Rattle.place_rows.specs.Rows.{TimedKnown}
use Rattle.place_turns.specs.Timely.{AreTimely, AreTimelyOpen, Holder}

module _ (A B : Type 0) {clock : ℕ} {row : List TimedKnown} {h : Holder} where
  -- in either state its passes are timely
  pub timely_in : (is_open : Bool) →
      MatchBool is_open (A × AreTimelyOpen clock row h) (B × AreTimely clock row h) →
      AreTimely clock row h
  timely_in true keeps = keeps.1.timely
  timely_in false keeps = keeps.1

  -- and it keeps what is kept in both
  pub kept_in : (is_open : Bool) (next : ℕ) (after : List TimedKnown) →
      (AreTimelyOpen clock row h → AreTimelyOpen next after h) →
      (AreTimely clock row h → AreTimely next after h) →
      MatchBool is_open (A × AreTimelyOpen clock row h) (B × AreTimely clock row h) →
      MatchBool is_open (A × AreTimelyOpen next after h) (B × AreTimely next after h)
  kept_in true next after goes_open goes keeps = (keeps.0, goes_open keeps.1)
  kept_in false next after goes_open goes keeps = (keeps.0, goes keeps.1)
