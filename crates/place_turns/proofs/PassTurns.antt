-- Of the passes of all places, the one at one place takes a turn.
use Rattle.std.proofs.Common.{◌≡◌, ◌≢◌, ◌<◌, ◌+◌, ℕ, zero, suc, List, [], ◌∷◌, length, refl}
use Rattle.std.proofs.Common.{sym, ap, ◌∙◌, subst, arith, inl, inr}
use Rattle.std.specs.Prelude.{map, slice_get, slice_set, Some, option_map, get_or}
use Rattle.std.specs.Prelude.{nat_eq}
use Rattle.std.proofs.lemmas.List.{map-set, length-map, length-set, get_or-set_same}
use Rattle.std.proofs.lemmas.Option.{slice_get_read, slice_get-map, slice_get_within}
use Rattle.std.proofs.lemmas.Option.{slice_get-get_or}
use Rattle.std.proofs.lemmas.Bool.{cases_Bool, eqb-true, eqb-false}
use Rattle.atomic_table.specs.Seated.{TableId}
use Rattle.turn_lock.specs.declared.storied.Storied.{Ghosts}
use Rattle.turn_lock.specs.declared.view.View.{View}
use Rattle.turn_lock.specs.declared.pass.Pass.{Pass}
use Rattle.turn_lock.specs.declared.lock.TurnLock.{TurnLock}
use Rattle.turn_lock.specs.Parts.{Tree, void, is_normal}
use Rattle.turn_lock.specs.Passes.{view_of}
use Rattle.locked_place.specs.Passes.{IsPassOf}
use Rattle.locked_place.specs.Times.{plain_view}
use Rattle.place_rows.specs.Rows.{Known, TimedKnown, known_of}
use Rattle.place_rows.specs.Rows.{ArePasses, IsKnown, TurnsOne, TurnedUpTo}
use Rattle.place_rows.specs.Rows.{lock_of, id_of}

-- ---- lists in which one item is set

module _ {X : Type 0} where
  pub get_same : (xs : List X) (i : ℕ) (w : X) → i < length xs →
      slice_get (slice_set xs i w) i ≡ Some w
  get_same xs i w h =
      slice_get-get_or (slice_set xs i w) i w (omega (arith, h, length-set xs i w))
      ∙ ap Some (get_or-set_same xs i w w h)

  pub get_other : (xs : List X) (i j : ℕ) (w : X) → j ≢ i →
      slice_get (slice_set xs i w) j ≡ slice_get xs j
  get_other [] i j w h = refl
  get_other (x ∷ xs) zero zero w h = absurd (h refl)
  get_other (x ∷ xs) zero (suc j) w h = refl
  get_other (x ∷ xs) (suc i) zero w h = refl
  get_other (x ∷ xs) (suc i) (suc j) w h = get_other xs i j w (λ e. h (ap suc e))

  pub some_same : (x y : X) → Some x ≡ Some y → x ≡ y
  some_same x y e = cc

  pub same_again : (xs : List X) (i : ℕ) (x : X) → slice_get xs i ≡ Some x → slice_set xs i x ≡ xs
  same_again [] i x is = refl
  same_again (y ∷ xs) zero x is = ap (λ z. z ∷ xs) (sym (some_same y x is))
  same_again (y ∷ xs) (suc i) x is = ap (λ (l : List X). y ∷ l) (same_again xs i x is)

  -- what holds of each item by its number, with one item set
  pub each_set : (P : ℕ → X → Type 0) (k : ℕ) (xs : List X) (w : X) → k < length xs →
      ((j : ℕ) (x : X) → slice_get xs j ≡ Some x → P j x) → P k w →
      (j : ℕ) (x : X) → slice_get (slice_set xs k w) j ≡ Some x → P j x
  each_set P k xs w there each new j x at =
      elim (cases_Bool (nat_eq j k)) [
        | inl same ↦ (let e : j ≡ k = eqb-true j k same in
            let is_x : w ≡ x =
            some_same w x (sym (get_same xs k w there)
            ∙ ap (slice_get (slice_set xs k w)) (sym e) ∙ at) in
            subst (λ (y : X). P j y) is_x (subst (λ n. P n w) (sym e) new))
        | inr other ↦ each j x (sym (get_other xs k j w (eqb-false j k other)) ∙ at)
      ]

-- ---- passes

module _ {S E : Type 0} {g : Ghosts S E} {L : Type 0} (label : S → L) (named : ℕ → L)
    (locks : List (TurnLock S E)) where
  pub as_many : (row : List (Pass S E g)) → ArePasses label named locks row →
      length row ≡ length locks
  as_many row all = sym (length-map row lock_of) ∙ ap length all.locks_are ∙ length-map locks id_of

  -- the pass at a place is of the lock there
  pub pass_there : (row : List (Pass S E g)) (k : ℕ) (lock : TurnLock S E) (pass : Pass S E g) →
      ArePasses label named locks row → k < length locks → lock ≡ get_or locks k lock →
      pass ≡ get_or row k pass → IsPassOf label (named k) lock pass
  pass_there row k lock pass all there is has =
      let at_lock = slice_get_read locks (length locks) k lock refl there is in
      let at_pass =
      slice_get_read row (length row) k pass refl (omega (arith, as_many row all, there)) has in
      let known = all.known k (view_of pass)
      (slice_get-map view_of row k ∙ ap (option_map view_of) at_pass) in
      record {
        of = some_same (lock_of pass) (id_of lock)
            (sym (slice_get-map lock_of row k ∙ ap (option_map lock_of) at_pass)
            ∙ ap (λ (l : List TableId). slice_get l k) all.locks_are
            ∙ slice_get-map id_of locks k ∙ ap (option_map id_of) at_lock);
        outside = known.outside;
        named_so = known.named_so;
      }

  -- and after a turn, which leaves its part of the lock as it is, all are passes of the locks
  pub passes_set : (row : List (Pass S E g)) (k : ℕ) (lock : TurnLock S E) (old new : Pass S E g) →
      ArePasses label named locks row → k < length locks → lock ≡ get_or locks k lock →
      old ≡ get_or row k old → (view_of new).part ≡ (view_of old).part →
      IsPassOf label (named k) lock new →
      ArePasses label named locks (slice_set row k new)
  passes_set row k lock old new all there is has part new_is =
      let at_lock = slice_get_read locks (length locks) k lock refl there is in
      let at_pass =
      slice_get_read row (length row) k old refl (omega (arith, as_many row all, there)) has in
      let known = all.known k (view_of old)
      (slice_get-map view_of row k ∙ ap (option_map view_of) at_pass) in
      let inside : k < length (map view_of row) =
      omega (arith, as_many row all, there, length-map row view_of) in
      let set_known : IsKnown label (named k) (view_of new) =
      record {
        outside = new_is.outside;
        named_so = new_is.named_so;
        normal = ap (λ (t : Tree). is_normal t) part ∙ known.normal;
        live = ap (λ (t : Tree). void t) part ∙ known.live;
      } in
      record {
        locks_are = map-set lock_of row k new
            ∙ ap (λ (l : List TableId). slice_set l k (lock_of new)) all.locks_are
            ∙ ap (λ (i : TableId). slice_set (map id_of locks) k i) new_is.of
            ∙ same_again (map id_of locks) k (id_of lock)
            (slice_get-map id_of locks k ∙ ap (option_map id_of) at_lock);
        known = λ j v at. each_set (λ n x. IsKnown label (named n) x) k (map view_of row)
            (view_of new) inside all.known set_known j v
            (ap (λ (l : List (View E S)). slice_get l j) (sym (map-set view_of row k new)) ∙ at);
      }

-- the turn of one pass is a turn of all
pub turns_one : {S E : Type 0} {g : Ghosts S E} (row : List (Pass S E g)) (k : ℕ)
    (old new : Pass S E g) (Turns : View E S → View E S → Type 0) → k < length row →
    old ≡ get_or row k old → Turns (view_of old) (view_of new) →
    TurnsOne k (map view_of row) (map view_of (slice_set row k new)) Turns
turns_one row k old new Turns there is turns = record {
  before = view_of old;
  after = view_of new;
  had = slice_get-map view_of row k
      ∙ ap (option_map view_of) (slice_get_read row (length row) k old refl there is);
  has = map-set view_of row k new;
  turns = turns;
}

-- a turn with times is one without
pub plain_one : (k : ℕ) (olds news : List TimedKnown) (Turns : TimedKnown → TimedKnown → Type 0)
    (Plain : Known → Known → Type 0) →
    ((v w : TimedKnown) → Turns v w → Plain (plain_view v) (plain_view w)) →
    TurnsOne k olds news Turns → TurnsOne k (known_of olds) (known_of news) Plain
plain_one k olds news Turns Plain plain one = record {
  before = plain_view one.before;
  after = plain_view one.after;
  had = slice_get-map plain_view olds k ∙ ap (option_map plain_view) one.had;
  has = ap known_of one.has ∙ map-set plain_view olds k one.after;
  turns = plain one.before one.after one.turns;
}

-- ---- turns at each place, one after the other

module _ {V : Type 0} (Turns : V → V → Type 0) where
  pub none_turned : (vs : List V) → TurnedUpTo 0 vs vs Turns
  none_turned vs = record {
    done = λ k v few at. absurd (omega (arith, few));
    rest = λ k most. refl;
  }

  pub one_more : (n : ℕ) (us vs ws : List V) → TurnedUpTo n us vs Turns →
      TurnsOne n vs ws Turns → TurnedUpTo (n + 1) us ws Turns
  one_more n us vs ws so_far one = record {
    done = λ k u few at. elim (cases_Bool (nat_eq k n)) [
      | inl same ↦ (let e : k ≡ n = eqb-true k n same in
          let was : u ≡ one.before =
          some_same u one.before
          (sym at ∙ ap (slice_get us) e ∙ sym (so_far.rest n (omega arith)) ∙ one.had) in
          record {
            after = one.after;
            at = ap (λ (l : List V). slice_get l k) one.has
                ∙ ap (slice_get (slice_set vs n one.after)) e
                ∙ get_same vs n one.after (slice_get_within vs n one.before one.had);
            turns = subst (λ (x : V). Turns x one.after) (sym was) one.turns;
          })
      | inr other ↦ (let done = so_far.done k u (omega (arith, few, eqb-false k n other)) at in
          record {
            after = done.after;
            at = ap (λ (l : List V). slice_get l k) one.has
                ∙ get_other vs n k one.after (eqb-false k n other) ∙ done.at;
            turns = done.turns;
          })
    ];
    rest = λ k most. ap (λ (l : List V). slice_get l k) one.has
        ∙ get_other vs n k one.after (λ same. absurd (omega (arith, most, same)))
        ∙ so_far.rest k (omega (arith, most));
  }
