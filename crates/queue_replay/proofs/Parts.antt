-- The packets that left, part by part.
use Rattle.std.proofs.Common.{◌≡◌, ◌≤◌, ◌-◌, ℕ, zero, suc, List, [], ◌∷◌, ◌++◌, length, take, drop}
use Rattle.std.proofs.Common.{Option, Some, refl, sym, ap, subst, ◌∙◌, append_assoc, append-nil}
use Rattle.std.proofs.Common.{length-append, arith}
use Rattle.std.specs.Prelude.{slice_get, slice_range}
use Rattle.std.proofs.lemmas.List.{take-append-le, drop-append-le, take_all, length-drop}
use Rattle.std.proofs.Math.Seq.{drop-append_seam}
use Rattle.queue_core.specs.State.{Bound}
use Rattle.queue_core.specs.Step.{step}
use Rattle.histories.specs.declared.entry.Entry.{Entry}
use Rattle.histories.specs.History.{history, replay, IsStep}
use Rattle.queue_replay.specs.Leaving.{visits_left}
use Rattle.queue_replay.specs.Departed.{IsPart, AreParts, Adds, IsNone, AreDeparted, IsAt}
use Rattle.queue_replay.specs.Departed.{end_at, start_at}
use Rattle.queue_replay.specs.declared.departed.Departed.{Departed}

-- ---- one entry more

module _ (all more : List (ℕ × ℕ)) where
  -- a part stays where more is added behind all
  part_kept : (start end : ℕ) → start ≤ end → end ≤ length all →
      slice_range (all ++ more) start end ≡ slice_range all start end
  part_kept start end order within =
      ap (take (end - start)) (drop-append-le start all more (omega (arith, order, within)))
      ∙ take-append-le (end - start) (drop start all) more
      (omega (arith, order, within, length-drop start all))

  -- what is added is the part behind all
  last_part : (start end : ℕ) → start ≡ length all → end ≡ length (all ++ more) →
      slice_range (all ++ more) start end ≡ more
  last_part start end from to =
      ap (λ n. take (end - start) (drop n (all ++ more))) from
      ∙ ap (take (end - start)) (drop-append_seam all more)
      ∙ take_all (end - start) more (omega (arith, from, to, length-append all more))

  -- so it stays what left in its entry
  kept : (q : Option Bound) (e : Entry) (start end : ℕ) → IsPart q e all start end →
      IsPart q e (all ++ more) start end
  kept q e start end is = record {
    order = is.order;
    within = omega (arith, is.within, length-append all more);
    left = λ one. part_kept start end is.order is.within ∙ is.left one;
  }

  -- and the last is what left in the entry more
  parts_on : (before es : List Entry) (start : ℕ) (ends : List ℕ) (e : Entry) (end : ℕ) →
      AreParts all before es start ends → end ≡ length (all ++ more) →
      (IsStep (replay (history e.queue (before ++ es))) e →
      more ≡ visits_left (step (replay (history e.queue (before ++ es))) e.event)) →
      AreParts (all ++ more) before (es ++ e ∷ []) start (ends ++ end ∷ [])
  parts_on before [] start [] e end are to is = (
    record {
      order = omega (arith, are, to, length-append all more);
      within = omega (arith, to);
      left = subst (λ bs. IsStep (replay (history e.queue bs)) e →
          slice_range (all ++ more) start end
          ≡ visits_left (step (replay (history e.queue bs)) e.event)) (append-nil before)
          (λ one. last_part start end are to ∙ is one);
    },
    to,
  )
  parts_on before [] start (n ∷ ends) e end are to is = absurd are
  parts_on before (d ∷ es) start [] e end are to is = absurd are
  parts_on before (d ∷ es) start (n ∷ ends) e end are to is = (
    kept (replay (history d.queue before)) d start n are.0,
    parts_on (before ++ d ∷ []) es n ends e end are.1 to
        (subst (λ bs. IsStep (replay (history e.queue bs)) e →
        more ≡ visits_left (step (replay (history e.queue bs)) e.event))
        (sym (append_assoc before (d ∷ []) es)) is),
  )

-- nothing left in no entries
pub none_departed : (d : Departed) → IsNone d → AreDeparted [] d
none_departed d none =
    subst (λ (xs : List (ℕ × ℕ)). AreParts xs [] [] 0 d.ends.items) (sym none.visits)
    (subst (λ (ns : List ℕ). AreParts [] [] [] 0 ns) (sym none.ends) refl)

-- what left in one entry more is added
pub departed_on : (es : List Entry) (e : Entry) (old new : Departed) (q : Option Bound) →
    q ≡ replay (history e.queue es) → AreDeparted es old → Adds old new q e →
    AreDeparted (es ++ e ∷ []) new
departed_on es e old new q is are adds =
    let to : length new.visits.items ≡ length (old.visits.items ++ adds.part) =
    ap (λ (xs : List (ℕ × ℕ)). length xs) adds.visits in
    subst (λ (xs : List (ℕ × ℕ)). AreParts xs [] (es ++ e ∷ []) 0 new.ends.items) (sym adds.visits)
    (subst (λ (ns : List ℕ). AreParts (old.visits.items ++ adds.part) [] (es ++ e ∷ []) 0 ns)
    (sym adds.ends)
    (parts_on old.visits.items adds.part [] es 0 old.ends.items e (length new.visits.items) are to
    (subst (λ (p : Option Bound). IsStep p e → adds.part ≡ visits_left (step p e.event)) is
    adds.left)))

-- ---- the part at a place

-- it begins where the one before ends
pub begins : (start : ℕ) (ends : List ℕ) (place : ℕ) →
    start_at start ends (suc place) ≡ end_at ends place
begins start [] place = refl
begins start (end ∷ ends) zero = refl
begins start (end ∷ ends) (suc place) = begins end ends place

-- the part there is what left in the entry
part_at : (all : List (ℕ × ℕ)) (before es : List Entry) (start : ℕ) (ends : List ℕ) (place : ℕ)
    (e : Entry) → AreParts all before es start ends → slice_get es place ≡ Some e →
    IsPart (replay (history e.queue (before ++ take place es))) e all
    (start_at start ends place) (end_at ends place)
part_at all before [] start ends place e are there = absurd (cc there)
part_at all before (d ∷ es) start [] place e are there = absurd are
part_at all before (d ∷ es) start (end ∷ ends) zero e are there =
    let same : d ≡ e = (cc there) in
    subst (λ bs. IsPart (replay (history e.queue bs)) e all start end) (sym (append-nil before))
    (subst (λ x. IsPart (replay (history x.queue before)) x all start end) same are.0)
part_at all before (d ∷ es) start (end ∷ ends) (suc place) e are there =
    subst (λ bs. IsPart (replay (history e.queue bs)) e all (start_at end ends place)
    (end_at ends place)) (append_assoc before (d ∷ []) (take place es))
    (part_at all (before ++ d ∷ []) es end ends place e are.1 there)

-- what left in an entry
pub left_there : (d : Departed) (es : List Entry) (place : ℕ) (e : Entry) (part : List (ℕ × ℕ)) →
    IsAt d place part → AreDeparted es d → slice_get es place ≡ Some e →
    IsStep (replay (history e.queue (take place es))) e →
    part ≡ visits_left (step (replay (history e.queue (take place es))) e.event)
left_there d es place e part is are there one =
    let at = part_at d.visits.items [] es 0 d.ends.items place e are there in
    is at.order at.within ∙ at.left one
