-- Lines of the queues of all places, gathered place by place.
use Rattle.std.proofs.Common.{◌≡◌, ◌≢◌, ◌<◌, ◌+◌, ℕ, List, [], ◌∷◌, length}
use Rattle.std.proofs.Common.{refl, sym, ap, ◌∙◌, subst, arith, Option, Some}
use Rattle.std.proofs.Common.{None, inl, inr}
use Rattle.std.specs.Prelude.{slice_get, slice_set, IsSome, map, option_map}
use Rattle.std.specs.BTreeMap.{BTreeMap, is_at, IsEmpty}
use Rattle.std.specs.Map.{lookup}
use Rattle.std.specs.Ordering.{nat_cmp}
use Rattle.std.proofs.lemmas.Bool.{cases_Bool, cases_eq, eqb-true}
use Rattle.std.proofs.lemmas.List.Elements.{All-head, All-tail}
use Rattle.std.proofs.lemmas.List.{map-set}
use Rattle.std.proofs.lemmas.Option.{slice_get-map}
use Rattle.turn_lock.specs.declared.storied.Storied.{Ghosts}
use Rattle.turn_lock.specs.declared.pass.Pass.{Pass}
use Rattle.turn_lock.specs.Passes.{view_of}
use Rattle.queue_core.specs.State.{Bound}
use Rattle.histories.specs.declared.entry.Entry.{Entry}
use Rattle.histories.specs.History.{history, is_of, replay}
use Rattle.histories.specs.Listing.{line_of}
use Rattle.histories.specs.Numbers.{queue_count}
use Rattle.histories.specs.States.{state_of}
use Rattle.place_history.specs.Lines.{text_at, text_of, AreLined}
use Rattle.place_history.specs.PlaceState.{AreHere}
use Rattle.locked_place.specs.Turns.{LooksOn}
use Rattle.locked_place.specs.Views.{LockedView}
use Rattle.locked_place.specs.Passes.{plain_view_of}
use Rattle.locked_place.specs.Times.{plain_view}
use Rattle.place_rows.specs.Rows.{Known, TimedKnown, TurnsOne, known_of}
use Rattle.place_turns.specs.Listings.{PutsLines, AreLinesUpTo, state_seen}
use Rattle.packet_entry.specs.declared.packet.Card.{Card}
use Rattle.histories.specs.declared.histories.Lost.{Lost}
use Rattle.histories.specs.Places.{place_for}
use Rattle.packet_moves.specs.declared.setting.Setting.{Setting}
use Rattle.place_rows.specs.Shares.{IsBalanced}
use Rattle.place_turns.proofs.OnwardBalance.{look_at}
use Rattle.place_turns.proofs.ClosingBalance.{LookKeeps}
use Rattle.place_turns.proofs.PassTurns.{get_same, get_other}

-- ---- queues of other places

none_elsewhere : (places k queue : ℕ) (es : List Entry) → AreHere places k es →
    place_for queue places ≢ k → history queue es ≡ []
none_elsewhere places k queue [] here other = refl
none_elsewhere places k queue (e ∷ es) here other =
    elim (cases_Bool (is_of queue e)) [
      | inl same ↦ absurd (other (ap (λ q. place_for q places) (sym (eqb-true e.queue queue same))
          ∙ All-head (λ (f : Entry). place_for f.queue places ≡ k) e es here))
      | inr not_so ↦ rw not_so (none_elsewhere places k queue es
          (All-tail (λ (f : Entry). place_for f.queue places ≡ k) e es here) other)
    ]

absent_elsewhere : (places k queue : ℕ) (es : List Entry) → AreHere places k es →
    place_for queue places ≢ k → state_of es queue ≡ None
absent_elsewhere places k queue es here other =
    ap replay (none_elsewhere places k queue es here other)

-- ---- one place

pub view_there : {g : Ghosts LockedView (Entry × ℕ)} (row : List (Pass LockedView (Entry × ℕ) g))
    (k : ℕ) (new : Pass LockedView (Entry × ℕ) g) → k < length (map view_of row) →
    slice_get (known_of (map view_of (slice_set row k new))) k ≡ Some (plain_view_of new)
view_there row k new there =
    slice_get-map plain_view (map view_of (slice_set row k new)) k
    ∙ ap (option_map plain_view)
    (ap (λ (l : List TimedKnown). slice_get l k) (map-set view_of row k new)
    ∙ get_same (map view_of row) k (view_of new) there)

one_state : (queue : ℕ) (es : List Entry) (olds news : BTreeMap ℕ (List ℕ)) (s : Option Bound) →
    state_of es queue ≡ s → queue < queue_count → AreLined es olds news →
    text_at olds queue ≡ [] → text_at news queue ≡ line_of queue s
one_state queue es olds news None is few lined none = lined.absent queue is ∙ none
one_state queue es olds news (Some b) is few lined none =
    lined.bound queue few (subst (λ o. IsSome o) (sym is) refl)
    ∙ ap (line_of queue) is

pub puts_so : (places place : ℕ) (known : List Known) (v : Known)
    (olds news : BTreeMap ℕ (List ℕ)) →
    slice_get known place ≡ Some v → AreHere places place v.seen → AreLined v.seen olds news →
    PutsLines places place known olds news
puts_so places place known v olds news at here lined = record {
  here = λ queue few own none.
      one_state queue v.seen olds news (state_of v.seen queue) refl few lined none
      ∙ ap (λ o. line_of queue (state_seen o queue))
      (sym (ap (slice_get known) own ∙ at));
  elsewhere = λ queue other.
      lined.absent queue (absent_elsewhere places place queue v.seen here other);
}

-- ---- place by place

pub none_lined : (lines : BTreeMap ℕ (List ℕ)) → IsEmpty lines → (queue : ℕ) →
    text_at lines queue ≡ []
none_lined lines empty queue =
    ap (λ (es : List (ℕ × List ℕ)). text_of (lookup (is_at (nat_cmp queue)) es)) empty

pub no_lines : (places : ℕ) (known : List Known) (lines : BTreeMap ℕ (List ℕ)) →
    ((queue : ℕ) → text_at lines queue ≡ []) → AreLinesUpTo places 0 known lines
no_lines places known lines none = record {
  here = λ queue few low. absurd (omega (arith, low));
  none = λ queue high. none queue;
}

pub more_lines : (places n : ℕ) (olds news : List Known) (lines more : BTreeMap ℕ (List ℕ))
    (Turns : Known → Known → Type 0) → AreLinesUpTo places n olds lines →
    TurnsOne n olds news Turns → PutsLines places n news lines more →
    AreLinesUpTo places (n + 1) news more
more_lines places n olds news lines more Turns is one puts = record {
  here = λ queue few low. elim (cases_eq (place_for queue places) n) [
    | inl own ↦ puts.here queue few own (is.none queue (omega (arith, own)))
    | inr other ↦ puts.elsewhere queue other
        ∙ is.here queue few (omega (arith, low, other))
        ∙ ap (λ o. line_of queue (state_seen o queue))
        (sym (ap (λ (l : List Known). slice_get l (place_for queue places)) one.has
        ∙ get_other olds n (place_for queue places) one.after other))
  ];
  none = λ queue high. puts.elsewhere queue (λ own. absurd (omega (arith, high, own)))
      ∙ is.none queue (omega (arith, high));
}

-- ---- balance

pub look_one : LookKeeps → (s : Setting) (entered : List Card) (lost : List Lost)
    (olds news : List Known) (place : ℕ) → TurnsOne place olds news LooksOn →
    IsBalanced s entered olds lost → IsBalanced s entered news lost
look_one looks s entered lost olds news place one is =
    looks s [] entered olds news lost place one.turns.found is (look_at place olds news one)
