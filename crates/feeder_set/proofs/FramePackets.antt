-- Turns at each place, one after the other, and the packet of a frame.
use Rattle.std.proofs.Common.{◌≡◌, ◌≢◌, ◌<◌, ◌+◌, ℕ, zero, suc, List, [], ◌∷◌, ◌++◌, length}
use Rattle.std.proofs.Common.{refl, sym, ap, ◌∙◌, subst, arith, inl, inr}
use Rattle.std.specs.Prelude.{Option, Some, None, All}
use Rattle.std.specs.Prelude.{slice_get, slice_set, option_map, nat_eq}
use Rattle.std.proofs.lemmas.Bool.{cases_Bool, eqb-true, eqb-false}
use Rattle.std.proofs.lemmas.Option.{slice_get_within, get_or_from_slice_get}
use Rattle.packet_entry.specs.declared.packet.Card.{Card}
use Rattle.ip_fields.specs.declared.frame.LinkCut.{LinkCut}
use Rattle.ip_fields.specs.Frame.{cut_of}
use Rattle.pcap_io.specs.declared.capture.Capture.{Capture}
use Rattle.pcap_io.specs.declared.capture.Frame.{Frame}
use Rattle.run_parts.specs.Entering.{card_at, card_of}
use Rattle.packet_moves.specs.declared.fed.Fed.{Fed}
use Rattle.locked_place.specs.Turns.{GoesDownIn}
use Rattle.place_rows.specs.Rows.{Known, TurnsOne, TurnedUpTo}
use Rattle.place_turns.specs.Moving.{IsFed}
use Rattle.plane.specs.declared.plane.Plane.{Plane}
use Rattle.plane.specs.Passes.{FeederView, IsFeederOf}
use Rattle.plane.specs.Planes.{places_of, setting_of}
use Rattle.feeder_set.specs.Steps.{Feeds, FallsAt}

-- ---- turns at each place

module _ {X : Type 0} where
  some_same : (x y : X) → Some x ≡ Some y → x ≡ y
  some_same x y e = cc

  get_same : (xs : List X) (i : ℕ) (w : X) → i < length xs →
      slice_get (slice_set xs i w) i ≡ Some w
  get_same [] i w h = absurd (omega arith)
  get_same (x ∷ xs) zero w h = refl
  get_same (x ∷ xs) (suc i) w h = get_same xs i w (omega arith)

  get_other : (xs : List X) (i j : ℕ) (w : X) → j ≢ i →
      slice_get (slice_set xs i w) j ≡ slice_get xs j
  get_other [] i j w h = refl
  get_other (x ∷ xs) zero zero w h = absurd (h refl)
  get_other (x ∷ xs) zero (suc j) w h = refl
  get_other (x ∷ xs) (suc i) zero w h = refl
  get_other (x ∷ xs) (suc i) (suc j) w h = get_other xs i j w (λ e. h (ap suc e))

module _ {V : Type 0} (Turns : V → V → Type 0) where
  pub none_turned : (vs : List V) → TurnedUpTo 0 vs vs Turns
  none_turned vs = record {
    done = λ k v few at. absurd (omega (arith, few));
    rest = λ k most. refl;
  }

  pub one_more : (n : ℕ) (us vs ws : List V) → TurnedUpTo n us vs Turns →
      TurnsOne n vs ws Turns → TurnedUpTo (n + 1) us ws Turns
  one_more n us vs ws so_far one = record {
    done = λ k u few at. elim (cases_Bool (nat_eq k n)) [
      | inl same ↦ (let e : k ≡ n = eqb-true k n same in
          let was : u ≡ one.before =
          some_same u one.before
          (sym at ∙ ap (slice_get us) e ∙ sym (so_far.rest n (omega arith)) ∙ one.had) in
          record {
            after = one.after;
            at = ap (λ (l : List V). slice_get l k) one.has
                ∙ ap (slice_get (slice_set vs n one.after)) e
                ∙ get_same vs n one.after (slice_get_within vs n one.before one.had);
            turns = subst (λ (x : V). Turns x one.after) (sym was) one.turns;
          })
      | inr other ↦ (let done = so_far.done k u (omega (arith, few, eqb-false k n other)) at in
          record {
            after = done.after;
            at = ap (λ (l : List V). slice_get l k) one.has
                ∙ get_other vs n k one.after (eqb-false k n other) ∙ done.at;
            turns = done.turns;
          })
    ];
    rest = λ k most. ap (λ (l : List V). slice_get l k) one.has
        ∙ get_other vs n k one.after (λ same. absurd (omega (arith, most, same)))
        ∙ so_far.rest k (omega (arith, most));
  }

-- a device goes down at a place, whatever it destroys there
pub falls_at : (device place count : ℕ) (olds news : List Known) →
    TurnsOne place olds news (λ v w. GoesDownIn device v w count) →
    TurnsOne place olds news (FallsAt device)
falls_at device place count olds news one = record {
  before = one.before;
  after = one.after;
  had = one.had;
  has = one.has;
  turns = (count, one.turns);
}

-- ---- the packet of a frame

some_card : (capture : Capture) (number : ℕ) (frame : Frame) (o : Option LinkCut) (card : Card) →
    Some card ≡ option_map (card_at capture number frame) o → card.visit ≡ 0
some_card capture number frame None card is = absurd (cc)
some_card capture number frame (Some cut) card is =
    let same : card ≡ card_at capture number frame cut = cc in
    ap (λ (k : Card). k.visit) same

-- it comes fresh
pub is_fresh : (capture : Capture) (number : ℕ) (frame : Frame) (card : Card) →
    Some card ≡ card_of capture number frame → card.visit ≡ 0
is_fresh capture number frame card is =
    some_card capture number frame (cut_of capture.link frame.bytes) card is

-- it was fed
pub card_fed : (plane : Plane) (o : Option Card) (card : Card) (old new : FeederView)
    (became : Fed) → Some card ≡ o →
    IsFed (places_of plane) (setting_of plane) old.trail card new.trail became →
    new.fed ≡ old.fed ++ card ∷ [] → IsFeederOf plane new → Feeds plane o old new
card_fed plane o card old new became is moved fed of =
    subst (λ (p : Option Card). Feeds plane p old new) is
    (record { became = became; moved = moved; fed = fed; of = of })

-- ---- a frame of a list

pub frame_is : (P : Frame → Type 0) (frames : List Frame) (k : ℕ) (frame : Frame) →
    slice_get frames k ≡ Some frame → All P frames → P frame
frame_is P frames k frame at all =
    subst P (get_or_from_slice_get frames k frame frame at)
    (all k frame (slice_get_within frames k frame at))
