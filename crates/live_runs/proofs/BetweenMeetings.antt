-- One meeting follows another: what lies between is of a stage.
use Rattle.std.proofs.Common.{◌++◌, ◌<◌, ◌∙◌, ◌∷◌, ◌≡◌, ◌≤◌, List, [], ap, refl, sym, true, ℕ}
use Rattle.std.proofs.Math.Nat.{mod-lt}
use Rattle.std.specs.Prelude.{flat_map}
use Rattle.histories.specs.declared.entry.Entry.{Entry}
use Rattle.histories.specs.Places.{place_for}
use Rattle.inspector_script.specs.Scripts.{ScriptValue}
use Rattle.run_parts.specs.Log.{Note}
use Rattle.run_parts.specs.Requests.{pleas_told}
use Rattle.live_runs.specs.ClosedPlanes.{AreOwned}
use Rattle.live_runs.specs.Meetings.{ArePorts, IsMeeting}
use Rattle.live_runs.specs.Passes.{Pass, feeder_number, is_pass, seen_at}
use Rattle.live_runs.specs.Seen.{EachIs, Seen, entries}
use Rattle.live_runs.specs.Stages.{Adds, Follows, InOrder, IsPlain, IsSegment, Stage, early_of}
use Rattle.live_runs.specs.Stages.{late_of}
use Rattle.live_runs.specs.Stands.{Stand}
use Rattle.live_runs.proofs.OwnInSegment.{front_owned}
use Rattle.live_runs.proofs.Marks.{entries_append}
use Rattle.live_runs.proofs.DueRanks.{ordered_later}
use Rattle.live_runs.proofs.OwnEntries.{cover, covered_even}
use Rattle.live_runs.proofs.RequestCounts.{pleas}
use Rattle.live_runs.proofs.StageOrder.{stage_on}

-- a meeting is one of each later stage, too
abbrev pub meeting_later : (workers : ℕ) (script : ScriptValue) (places : ℕ) (old new : Stage)
    (passes : ℕ → Pass) (notes : ℕ → List Note) (stands : ℕ → Stand) →
    Follows script.ports old new → IsMeeting workers script places old passes notes stands →
    IsMeeting workers script places new passes notes stands
meeting_later workers script places old new passes notes stands after_it m = record {
  whole = m.whole;
  are = m.are;
  met = m.met;
  order = λ owned. record {
    each = λ queue below. ordered_later script.ports (early_of script.ports old)
        (early_of script.ports new) (late_of old) (late_of new) _ _ _ after_it.0 after_it.1
        (λ p. refl) ((m.order owned).each queue below);
  };
}

pub cut_front : (front xs ys : List Entry) → front ++ xs ≡ front ++ ys → xs ≡ ys
cut_front [] xs ys same = same
cut_front (e ∷ front) xs ys same = cut_front front xs ys (ap tail same)
  where
    tail : List Entry → List Entry
    tail [] = []
    tail (e ∷ es) = es

module _ (workers : ℕ) (script : ScriptValue) (places : ℕ) (early late : ℕ) (stage : Stage)
    (old new : ℕ → Pass) (was now : ℕ → List Note) (stood stands : ℕ → Stand) (some : 0 < places)
    (up : early ≤ early_of script.ports stage) (on : late ≤ late_of stage)
    (were : ArePorts workers script places old was stood)
    (are : ArePorts workers script places new now stands) (whole : ℕ → List Entry)
    (met : (k p : ℕ) → k < places → is_pass script.ports p ≡ true →
    entries (seen_at old k p) ≡ whole k)
    (order : ((k : ℕ) → k < places →
    AreOwned (is_pass script.ports) (seen_at old k) (whole k)) →
    InOrder workers script places early late whole was)
    (then : ℕ → List Entry)
    (met_then : (k p : ℕ) → is_pass script.ports p ≡ true → entries (seen_at new k p) ≡ then k)
    (more : ℕ → ℕ → List Seen)
    (longer : (k p : ℕ) → is_pass script.ports p ≡ true →
    seen_at new k p ≡ seen_at old k p ++ more k p) where
  abbrev pub segment : ℕ → List Entry
  segment k = entries (more k feeder_number)

  pub then_is : (k p : ℕ) → k < places → is_pass script.ports p ≡ true →
      then k ≡ whole k ++ entries (more k p)
  then_is k p below is = sym (met_then k p is) ∙ ap entries (longer k p is)
      ∙ entries_append (seen_at old k p) (more k p)
      ∙ ap (λ es. es ++ entries (more k p)) (met k p below is)

  abbrev pub segments : (k : ℕ) → k < places → IsSegment (is_pass script.ports) (seen_at old k)
      (seen_at new k) (whole k) (segment k)
  segments k below = record {
    more = more k;
    is = longer k;
    was = λ p is. met k p below is;
    now = λ p is. cut_front (whole k) (entries (more k p)) (segment k)
        (sym (then_is k p below is) ∙ then_is k feeder_number below refl);
  }

  pub met_now : (k p : ℕ) → k < places → is_pass script.ports p ≡ true →
      entries (seen_at new k p) ≡ whole k ++ segment k
  met_now k p below is = met_then k p is ∙ then_is k feeder_number below refl

  abbrev pub following : ((p : ℕ) → Adds workers script (early_of script.ports stage)
      (late_of stage) p
      (was p) (now p)) →
      (((k : ℕ) → k < places →
      AreOwned (is_pass script.ports) (seen_at new k) (whole k ++ segment k)) →
      (k : ℕ) → k < places →
      EachIs (IsPlain script.ports (early_of script.ports stage) (late_of stage)) (segment k)) →
      IsMeeting workers script places stage new now stands
  following told plain = record {
    whole = λ k. whole k ++ segment k;
    are = are;
    met = met_now;
    order = λ owned.
        let before : (k : ℕ) → k < places →
        AreOwned (is_pass script.ports) (seen_at old k) (whole k) = λ k below.
        front_owned (is_pass script.ports) (seen_at old k) (seen_at new k) (whole k)
        (segment k) (segments k below) (owned k below) in
        stage_on workers script places early late (early_of script.ports stage) (late_of stage)
        whole segment was now up on some (plain owned) told
        (λ p queue. even_old before p queue) (λ p queue. even_new owned p queue) (order before);
  }
    where
      even_old : ((k : ℕ) → k < places →
          AreOwned (is_pass script.ports) (seen_at old k) (whole k)) → (p queue : ℕ) →
          pleas p queue (whole (place_for queue places)) ≡ flat_map (pleas_told queue) (was p)
      even_old before p queue =
          let k = place_for queue places in
          let below : k < places = mod-lt queue some in
          covered_even workers script places old was stood were p queue k (whole k) refl
          (cover workers script places old was stood were k (whole k)
          (λ q is. met k q below is) (before k below))

      even_new : ((k : ℕ) → k < places →
          AreOwned (is_pass script.ports) (seen_at new k) (whole k ++ segment k)) →
          (p queue : ℕ) → pleas p queue (whole (place_for queue places) ++ segment
          (place_for queue places))
          ≡ flat_map (pleas_told queue) (now p)
      even_new owned p queue =
          let k = place_for queue places in
          let below : k < places = mod-lt queue some in
          covered_even workers script places new now stands are p queue k (whole k ++ segment k)
          refl (cover workers script places new now stands are k (whole k ++ segment k)
          (λ q is. met_now k q below is) (owned k below))
