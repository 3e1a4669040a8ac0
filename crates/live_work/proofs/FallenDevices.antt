-- Devices that go down at each place of a plane, line by line.
use Rattle.std.proofs.Common.{◌≡◌, ◌<◌, ◌≤◌, ◌+◌, ◌*◌, ◌∙◌, ◌++◌, ◌∷◌, [], ℕ, List, Option, Some}
use Rattle.std.proofs.Common.{ap, arith, inl, inr, length, refl, subst, suc, sym, zero}
use Rattle.std.specs.Prelude.{◌⊎◌, All, slice_get}
use Rattle.std.proofs.lemmas.Bool.{cases_lt}
use Rattle.std.proofs.lemmas.List.{length-map}
use Rattle.std.proofs.lemmas.List.Elements.{All-head, All-tail}
use Rattle.atomic_table.specs.Seated.{TableId}
use Rattle.place_rows.specs.Rows.{Known, TurnsOne, id_of}
use Rattle.turn_lock.specs.Views.{HasSeenOwn}
use Rattle.histories.specs.History.{AreLegal}
use Rattle.locked_place.specs.Turns.{GoesDownIn}
use Rattle.script_lines.specs.declared.line.Down.{Down}
use Rattle.run_parts.specs.Feeder.{falling_time}
use Rattle.plane.specs.declared.plane.Plane.{Plane}
use Rattle.plane.specs.Passes.{FeederView, IsFeederOf}
use Rattle.plane.specs.Planes.{places_of}
use Rattle.live_runs.specs.Calls.{Falls, FallsAt}
use Rattle.live_runs.specs.Feeding.{TakesDownTo}
use Rattle.live_runs.specs.Owners.{IsFeeders, IsFeeding}
use Rattle.live_runs.specs.Seen.{Grows, Seen, Shares}
use Rattle.live_passes.specs.Views.{HaveSeenOwn, seen_of, shares_of}
use Rattle.feeder_set.specs.Steps as step
use Rattle.feeder_set.specs.Steps.{AllFall}
use Rattle.live_work.specs.Feeding.{FedOn, shares_in}
use Rattle.live_work.proofs.FeederCalls.{WaitsLaw, fed_both, fed_none, grows_none}
use Rattle.live_work.proofs.UnchangedPass.{feeder_owns}

-- ---- the laws

abbrev pub FellLaw : Type 0
FellLaw = (device place count : ℕ) (olds news : List Known) → HaveSeenOwn olds →
    TurnsOne place olds news (λ v w. GoesDownIn device v w count) →
    Falls device place (shares_of olds) (shares_of news)

abbrev pub NoPlaceLaw : Type 0
NoPlaceLaw = (places : ℕ) (d : Down) (shares : Shares) → TakesDownTo 0 places d shares shares

abbrev pub NextPlaceLaw : Type 0
NextPlaceLaw = (place places : ℕ) (d : Down) (old mid new : Shares) →
    TakesDownTo place places d old mid → Falls d.device place mid new →
    TakesDownTo (place + 1) places d old new

pub record DownLaws : Type 0 where
  pub fell : FellLaw
  pub no_place : NoPlaceLaw
  pub next_place : NextPlaceLaw

-- ---- a device goes down at a place

-- what is known of one place alone
one_owns : (known : List Known) (k : ℕ) (v : Known) → slice_get known k ≡ Some v →
    HaveSeenOwn known → HaveSeenOwn (v ∷ [])
one_owns known k v there own = record {
  placed = λ i w at. by_placed i w at;
  legal = λ i w at. by_legal i w at;
}
  where
    by_placed : (i : ℕ) (w : Known) → slice_get (v ∷ []) i ≡ Some w → HasSeenOwn w
    by_placed zero w at =
        let same : w ≡ v = cc in own.placed k w (there ∙ ap (λ (x : Known). Some x) (sym same))
    by_placed (suc i) w at = absurd (cc)

    by_legal : (i : ℕ) (w : Known) → slice_get (v ∷ []) i ≡ Some w → AreLegal w.seen
    by_legal zero w at =
        let same : w ≡ v = cc in own.legal k w (there ∙ ap (λ (x : Known). Some x) (sym same))
    by_legal (suc i) w at = absurd (cc)

-- what a fall does at a place: its line has taken effect there
pub record FallsThere (d : Down) (old new : List Seen) : Type 0 where
  pub done : (time : ℕ) (fallen : List Down) → time ≤ 2 * d.after + 1 →
      IsFeeding time fallen old → IsFeeding (2 * d.after + 1) (fallen ++ d ∷ []) new
  pub falls : FallsAt d.device old new
  pub grows : Grows IsFeeders old new

fell_there : DownLaws → (d : Down) (count : ℕ) (v w : Known) → HaveSeenOwn (v ∷ []) →
    GoesDownIn d.device v w count → FallsThere d (seen_of (Some v)) (seen_of (Some w))
fell_there laws d count v w own down =
    let one = laws.fell d.device 0 count (v ∷ []) (w ∷ []) own
    (record { before = v; after = w; had = refl; has = refl; turns = down }) in
    let all = laws.next_place 0 1 d (shares_of (v ∷ [])) (shares_of (v ∷ [])) (shares_of (w ∷ []))
    (laws.no_place 1 d (shares_of (v ∷ []))) one in
    record {
      done = λ time fallen early were. all.done time fallen early 0 (omega arith) (omega arith)
          were;
      falls = all.turned 0 (omega arith);
      grows = all.grows 0;
    }

-- there is something of each place
pub feeder_long : (plane : Plane) (p : FeederView) → IsFeederOf plane p →
    length p.trail.known ≡ places_of plane
feeder_long plane p of =
    of.of.as_many ∙ ap (λ (l : List TableId). length l) of.of.locks_are
    ∙ length-map plane.shared.locks.items id_of ∙ plane.shared.sized

there_is : (known : List Known) (k : ℕ) → k < length known →
    (v : Known) × (slice_get known k ≡ Some v)
there_is [] k less = absurd (omega (arith, less))
there_is (v ∷ known) zero less = (v, refl)
there_is (v ∷ known) (suc k) less =
    let more : suc k < suc (length known) = less in there_is known k (omega (arith, more))

-- at each place of a plane
module _ (laws : DownLaws) (plane : Plane) where
  pub falls_here : (d : Down) (old new : FeederView) → IsFeederOf plane old →
      step.Falls plane d.device old new → (k : ℕ) → k < places_of plane →
      FallsThere d (shares_in old k) (shares_in new k)
  falls_here d old new of falls k less =
      let there = there_is old.trail.known k (omega (arith, less, feeder_long plane old of)) in
      let turned = falls.turned.done k there.0 less there.1 in
      subst (λ (o : Option Known). FallsThere d (seen_of o) (shares_in new k))
      (sym there.1)
      (subst (λ (o : Option Known). FallsThere d (seen_of (Some there.0)) (seen_of o))
      (sym turned.at)
      (fell_there laws d turned.turns.0 there.0 turned.after
      (one_owns old.trail.known k there.0 there.1 (feeder_owns plane old of)) turned.turns.1))

  pub falls_grow : (d : Down) (old new : FeederView) → IsFeederOf plane old →
      step.Falls plane d.device old new → (k : ℕ) →
      Grows IsFeeders (shares_in old k) (shares_in new k)
  falls_grow d old new of falls k = by (cases_lt k (places_of plane))
    where
      by : (k < places_of plane) ⊎ (places_of plane ≤ k) →
          Grows IsFeeders (shares_in old k) (shares_in new k)
      by (inl less) = (falls_here d old new of falls k less).grows
      by (inr most) =
          subst (λ (o : Option Known). Grows IsFeeders (shares_in old k) (seen_of o))
          (sym (falls.turned.rest k most)) (grows_none IsFeeders (shares_in old k))

  -- a line took effect
  line_fell : (d : Down) (number : ℕ) (old new : FeederView) → d.after ≡ number →
      IsFeederOf plane old → step.Falls plane d.device old new →
      FedOn (places_of plane) (falling_time number) (falling_time number) (d ∷ [])
      (shares_in old) (shares_in new)
  line_fell d number old new after of falls = record {
    on = λ time fallen within were k here.
        subst (λ (n : ℕ). IsFeeding (2 * n + 1) (fallen ++ d ∷ []) (shares_in new k)) after
        ((falls_here d old new of falls k here).done time fallen (omega (arith, within, after))
        (were k here));
    grows = falls_grow d old new of falls;
  }

  -- and so did all of a frame
  pub lines_fell : WaitsLaw → (ds : List Down) (number : ℕ) (old new : FeederView) →
      All (λ (d : Down). d.after ≡ number) ds → IsFeederOf plane old →
      AllFall plane ds old new →
      FedOn (places_of plane) (falling_time number) (falling_time number) ds (shares_in old)
      (shares_in new)
  lines_fell waits [] number old new after of fall =
      let places = places_of plane in
      let time = falling_time number in
      subst (λ (p : FeederView). FedOn places time time [] (shares_in old) (shares_in p))
      (sym fall) (fed_none waits places time time (shares_in old) (omega arith))
  lines_fell waits (d ∷ ds) number old new after of fall =
      let places = places_of plane in
      let time = falling_time number in
      let mid = fall.0 in
      fed_both places time time time time (d ∷ []) ds (shares_in old) (shares_in mid)
      (shares_in new) (omega arith)
      (line_fell d number old mid (All-head (λ (e : Down). e.after ≡ number) d ds after) of
      fall.1.0)
      (lines_fell waits ds number mid new
      (All-tail (λ (e : Down). e.after ≡ number) d ds after) fall.1.0.of fall.1.1)
