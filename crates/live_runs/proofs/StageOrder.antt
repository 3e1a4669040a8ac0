-- From one meeting to the next the histories stay in order.
use Rattle.std.proofs.Common.{◌++◌, ◌+◌, ◌<◌, ◌∙◌, ◌≡◌, ◌≤◌, List, ap, arith, length, refl}
use Rattle.std.proofs.Common.{subst, sym, ℕ}
use Rattle.std.proofs.Math.Nat.{mod-lt}
use Rattle.std.proofs.lemmas.List.{length-append}
use Rattle.std.proofs.lemmas.List.Concat.{flat_map-append}
use Rattle.std.proofs.lemmas.List.Elements.{filter-append}
use Rattle.std.specs.Prelude.{flat_map}
use Rattle.histories.specs.History.{history, is_of}
use Rattle.histories.specs.declared.entry.Entry.{Entry}
use Rattle.histories.specs.Places.{place_for}
use Rattle.inspector_script.specs.Scripts.{ScriptValue}
use Rattle.run_parts.specs.Log.{Note, standing, start}
use Rattle.run_parts.specs.Order.{Kind, kinds_from, kinds_told}
use Rattle.run_parts.specs.Ports.{place_in}
use Rattle.run_parts.specs.Requests.{pleas_in, pleas_told}
use Rattle.run_parts.specs.Underway.{Ordered}
use Rattle.live_runs.specs.Seen.{EachIs}
use Rattle.live_runs.specs.Stages.{Adds, InOrder, IsPlain}
use Rattle.live_runs.proofs.StageNotes.{kinds_append, kinds_long}
use Rattle.live_runs.proofs.Marks.{each_history}
use Rattle.live_runs.proofs.DueRanks.{ordered_later}
use Rattle.live_runs.proofs.RequestCounts.{pleas, pleas_append}
use Rattle.live_runs.proofs.Segments.{segment_ordered}

module _ (workers : ℕ) (script : ScriptValue) (places early late early2 late2 : ℕ)
    (was seg : ℕ → List Entry)
    (notes now : ℕ → List Note) (up : early ≤ early2) (on : late ≤ late2)
    (some : 0 < places)
    (plain : (k : ℕ) → k < places → EachIs (IsPlain script.ports early2 late2) (seg k))
    (told : (p : ℕ) → Adds workers script early2 late2 p (notes p) (now p))
    (even : (p queue : ℕ) → pleas p queue (was (place_for queue places))
    ≡ flat_map (pleas_told queue) (notes p))
    (even2 : (p queue : ℕ) → pleas p queue (was (place_for queue places) ++ seg
    (place_for queue places))
    ≡ flat_map (pleas_told queue) (now p)) where
  abbrev kinds_of_segment : ℕ → ℕ → List Kind
  kinds_of_segment queue p = kinds_from workers script (place_in p script.ports) queue p
      (standing workers script (place_in p script.ports) p (notes p)) (told p).more

  many : (queue p : ℕ) → length (kinds_of_segment queue p)
      ≡ length (pleas_in p (history queue (seg (place_for queue places))))
  many queue p =
      let k = place_for queue places in
      let a = ap length (sym (pleas_append p queue (was k) (seg k)) ∙ even2 p queue
      ∙ ap (flat_map (pleas_told queue)) (told p).is
      ∙ flat_map-append (pleas_told queue) (notes p) (told p).more) in
      let b = length-append (pleas p queue (was k)) (pleas p queue (seg k)) in
      let c = length-append (flat_map (pleas_told queue) (notes p))
      (flat_map (pleas_told queue) (told p).more) in
      let d = ap length (even p queue) in
      let e = kinds_long workers script (place_in p script.ports) queue p
      (standing workers script (place_in p script.ports) p (notes p)) (told p).more in
      let f : length (pleas p queue (was k)) + length (pleas p queue (seg k))
      ≡ length (flat_map (pleas_told queue) (notes p))
      + length (flat_map (pleas_told queue) (told p).more) = sym b ∙ a ∙ c in
      let g : length (flat_map (pleas_told queue) (told p).more)
      ≡ length (pleas p queue (seg k)) = omega (arith, f, d) in
      e ∙ g

  pub stage_on : InOrder workers script places early late was notes →
      InOrder workers script places early2 late2 (λ k. was k ++ seg k) now
  stage_on is = record {
    each = λ queue below.
        let k = place_for queue places in
        subst (Ordered script.ports early2 late2 (λ p. kinds_told workers script queue p (now p)))
        (sym (filter-append (is_of queue) (was k) (seg k)))
        (ordered_later script.ports early2 early2 late2 late2
        (λ p. kinds_told workers script queue p (notes p) ++ kinds_of_segment queue p)
        (λ p. kinds_told workers script queue p (now p))
        (history queue (was k) ++ history queue (seg k)) (omega arith) (omega arith)
        (λ p. sym (ap (kinds_told workers script queue p) (told p).is
        ∙ kinds_append workers script (place_in p script.ports) queue p
        (start script (place_in p script.ports)) (notes p) (told p).more))
        (segment_ordered script.ports early2 late2 (history queue (seg k))
        (kinds_of_segment queue) (λ p. kinds_told workers script queue p (notes p))
        (history queue (was k)) (many queue)
        (λ p. (told p).kinds queue)
        (each_history (IsPlain script.ports early2 late2) queue (seg k)
        (plain k (mod-lt queue some)))
        (ordered_later script.ports early early2 late late2
        (λ p. kinds_told workers script queue p (notes p))
        (λ p. kinds_told workers script queue p (notes p))
        (history queue (was k)) up on (λ p. refl) (is.each queue below))));
  }
