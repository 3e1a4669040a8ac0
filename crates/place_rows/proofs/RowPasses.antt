-- Passes of a row: the one of a place, and one that changes.
use Rattle.std.proofs.Common.{◌≡◌, ◌<◌, ◌+◌, ℕ, suc, List, [], ◌∷◌, ◌++◌, length, refl}
use Rattle.std.proofs.Common.{sym, ap, ◌∙◌, subst, arith, inl, inr}
use Rattle.std.specs.Prelude.{map, slice_get, slice_set, Some, option_map, get_or}
use Rattle.std.specs.Prelude.{nat_eq}
use Rattle.std.proofs.lemmas.List.{map-set, length-map, length-append}
use Rattle.std.proofs.lemmas.Option.{slice_get_read, slice_get-map, slice_get_within}
use Rattle.std.proofs.lemmas.Bool.{cases_Bool, eqb-true, eqb-false}
use Rattle.atomic_table.specs.Seated.{TableId}
use Rattle.turn_lock.specs.declared.storied.Storied.{Ghosts}
use Rattle.turn_lock.specs.declared.view.View.{View}
use Rattle.turn_lock.specs.declared.pass.Pass.{Pass}
use Rattle.turn_lock.specs.declared.lock.TurnLock.{TurnLock}
use Rattle.turn_lock.specs.Passes.{view_of}
use Rattle.locked_place.specs.Passes.{IsPassOf}
use Rattle.place_rows.specs.Rows.{ArePasses, IsKnown, IsPassAt, TurnsOne, lock_of, id_of}
use Rattle.place_rows.proofs.Lists.{one_item, get_same, get_other, same_again, item_at, get_longer}
use Rattle.place_rows.proofs.Lists.{get_seam}

-- what a pass of a lock knows
pub known_pass : {S E : Type 0} {g : Ghosts S E} {L : Type 0} (label : S → L) (named : L)
    (lock : TurnLock S E) (pass : Pass S E g) → IsPassOf label named lock pass →
    IsKnown label named (view_of pass)
known_pass label named lock pass is = record {
  outside = is.outside;
  named_so = is.named_so;
  normal = pass.normal;
  live = pass.live;
}

module _ {S E : Type 0} {g : Ghosts S E} {L : Type 0} (label : S → L) (named : ℕ → L)
    (locks : List (TurnLock S E)) where
  pub as_many : (passes : List (Pass S E g)) → ArePasses label named locks passes →
      length passes ≡ length locks
  as_many passes all =
      sym (length-map passes lock_of) ∙ ap length all.locks_are ∙ length-map locks id_of

  pub row_there : (passes : List (Pass S E g)) → ArePasses label named locks passes → (k : ℕ) →
      k < length locks → k < length passes
  row_there passes all k there = omega (arith, as_many passes all, there)

  pub pass_there : (passes : List (Pass S E g)) (k : ℕ) (lock : TurnLock S E) (pass : Pass S E g) →
      ArePasses label named locks passes → k < length locks → lock ≡ get_or locks k lock →
      pass ≡ get_or passes k pass → IsPassOf label (named k) lock pass
  pass_there passes k lock pass all there is has =
      let at_lock = slice_get_read locks (length locks) k lock refl there is in
      let at_pass = slice_get_read passes (length passes) k pass refl (omega (
        arith,
        as_many passes
            all,
        there,
      )) has in
      let known = all.known k (view_of pass)
      (slice_get-map view_of passes k ∙ ap (option_map view_of) at_pass) in
      record {
        of = one_item (lock_of pass) (id_of lock)
            (sym (slice_get-map lock_of passes k ∙ ap (option_map lock_of) at_pass)
            ∙ ap (λ (l : List TableId). slice_get l k) all.locks_are
            ∙ slice_get-map id_of locks k ∙ ap (option_map id_of) at_lock);
        outside = known.outside;
        named_so = known.named_so;
      }

  pub passes_set : (passes : List (Pass S E g)) (k : ℕ) (lock : TurnLock S E)
      (new : Pass S E g) → ArePasses label named locks passes → k < length locks →
      lock ≡ get_or locks k lock → IsPassOf label (named k) lock new →
      ArePasses label named locks (slice_set passes k new)
  passes_set passes k lock new all there is new_is =
      let at_lock = slice_get_read locks (length locks) k lock refl there is in
      let inside : k < length (map view_of passes) =
      omega (arith, as_many passes all, there, length-map passes view_of) in
      record {
        locks_are = map-set lock_of passes k new
            ∙ ap (λ (l : List TableId). slice_set l k (lock_of new)) all.locks_are
            ∙ ap (λ (i : TableId). slice_set (map id_of locks) k i) (new_is.of)
            ∙ same_again (map id_of locks) k (id_of lock)
            (slice_get-map id_of locks k ∙ ap (option_map id_of) at_lock);
        known = λ j v at. elim (cases_Bool (nat_eq j k)) [
          | inl same ↦ (let e : j ≡ k = eqb-true j k same in
              let is_v : view_of new ≡ v =
              one_item (view_of new) v (sym (get_same (map view_of passes) k (view_of new) inside)
              ∙ ap (slice_get (slice_set (map view_of passes) k (view_of new))) (sym e)
              ∙ ap (λ (l : List (View E S)). slice_get l j) (sym (map-set view_of passes k new))
              ∙ at) in
              subst (IsKnown label (named j)) is_v
              (subst (λ n. IsKnown label (named n) (view_of new)) (sym e)
              (known_pass label (named k) lock new new_is)))
          | inr other ↦ all.known j v
              (sym (get_other (map view_of passes) k j (view_of new) (eqb-false j k other))
              ∙ ap (λ (l : List (View E S)). slice_get l j) (sym (map-set view_of passes k new))
              ∙ at)
        ];
      }

  pub pass_at : (passes : List (Pass S E g)) (k : ℕ) (pass : Pass S E g) →
      ArePasses label named locks passes → slice_get passes k ≡ Some pass →
      IsPassAt label named locks k pass
  pass_at passes k pass all at =
      let many : length passes ≡ length locks =
      sym (length-map passes lock_of) ∙ ap length all.locks_are ∙ length-map locks id_of in
      let here = item_at locks k (omega (arith, many, slice_get_within passes k pass at)) in
      let known = all.known k (view_of pass)
      (slice_get-map view_of passes k ∙ ap (option_map view_of) at) in
      record {
        lock = here.0;
        there = here.1;
        of = record {
          of = one_item (lock_of pass) (id_of here.0)
              (sym (slice_get-map lock_of passes k ∙ ap (option_map lock_of) at)
              ∙ ap (λ (l : List TableId). slice_get l k) all.locks_are
              ∙ slice_get-map id_of locks k ∙ ap (option_map id_of) here.1);
          outside = known.outside;
          named_so = known.named_so;
        };
      }

  pub at_lock : (k : ℕ) (lock : TurnLock S E) (pass : Pass S E g) →
      IsPassAt label named locks k pass → k < length locks → lock ≡ get_or locks k lock →
      IsPassOf label (named k) lock pass
  at_lock k lock pass at there is =
      subst (λ (l : TurnLock S E). IsPassOf label (named k) l pass)
      (one_item at.lock lock (sym at.there
      ∙ slice_get_read locks (length locks) k lock refl there is))
      at.of

pub turns_one : {S E : Type 0} {g : Ghosts S E} (passes : List (Pass S E g)) (k : ℕ)
    (old new : Pass S E g) (Turns : View E S → View E S → Type 0) → k < length passes →
    old ≡ get_or passes k old → Turns (view_of old) (view_of new) →
    TurnsOne k (map view_of passes) (map view_of (slice_set passes k new)) Turns
turns_one passes k old new Turns there is turns = record {
  before = view_of old;
  after = view_of new;
  had = slice_get-map view_of passes k
      ∙ ap (option_map view_of) (slice_get_read passes (length passes) k old refl there is);
  has = map-set view_of passes k new;
  turns = turns;
}

-- ---- a row that is made pass by pass

map_same : {A B T : Type 0} (f : A → T) (g : B → T) (xs : List A) (ys : List B) →
    length xs ≡ length ys →
    ((k : ℕ) (x : A) (y : B) → slice_get xs k ≡ Some x → slice_get ys k ≡ Some y → f x ≡ g y) →
    map f xs ≡ map g ys
map_same f g [] [] many each = refl
map_same f g [] (y ∷ ys) many each = absurd (omega (arith, many))
map_same f g (x ∷ xs) [] many each = absurd (omega (arith, many))
map_same f g (x ∷ xs) (y ∷ ys) many each =
    ap (λ t. t ∷ map f xs) (each 0 x y refl refl)
    ∙ ap (λ (l : List _). g y ∷ l)
    (map_same f g xs ys (omega (arith, many)) (λ k a b at also. each (suc k) a b at also))

-- the passes of the first n locks
pub record ArePassesUpTo {S E : Type 0} {g : Ghosts S E} {L : Type 0} (label : S → L)
    (named : ℕ → L) (locks : List (TurnLock S E)) (n : ℕ) (row : List (Pass S E g)) : Type 0 where
  pub each : (k : ℕ) (pass : Pass S E g) → slice_get row k ≡ Some pass →
      IsPassAt label named locks k pass
  pub many : length row ≡ n

module _ {S E : Type 0} {g : Ghosts S E} {L : Type 0} (label : S → L) (named : ℕ → L)
    (locks : List (TurnLock S E)) where
  pub no_passes : (row : List (Pass S E g)) → row ≡ [] → ArePassesUpTo label named locks 0 row
  no_passes row none = record {
    each = λ k pass at. absurd (cc (sym at ∙ ap (λ (l : List (Pass S E g)). slice_get l k) none));
    many = ap length none;
  }

  pub one_pass_more : (n : ℕ) (row more : List (Pass S E g)) (pass : Pass S E g) →
      ArePassesUpTo label named locks n row → more ≡ row ++ pass ∷ [] →
      IsPassAt label named locks n pass → ArePassesUpTo label named locks (n + 1) more
  one_pass_more n row more pass so_far is here = record {
    each = λ k p at.
        let there : slice_get (row ++ pass ∷ []) k ≡ Some p =
        ap (λ (l : List (Pass S E g)). slice_get l k) (sym is) ∙ at in
        elim (cases_Bool (nat_eq k n)) [
          | inl same ↦ (let e : k ≡ n = eqb-true k n same in
              let p_is : pass ≡ p =
              one_item pass p (sym (get_seam row pass [])
              ∙ ap (slice_get (row ++ pass ∷ [])) (so_far.many ∙ sym e) ∙ there) in
              subst (IsPassAt label named locks k) p_is
              (subst (λ j. IsPassAt label named locks j pass) (sym e) here))
          | inr other ↦ (let few : k < length row =
              omega (
                arith,
                eqb-false k n other,
                so_far.many,
                slice_get_within (row ++ pass ∷ []) k p there,
                length-append row (pass ∷ []),
              ) in
              so_far.each k p (sym (get_longer row (pass ∷ []) k few) ∙ there))
        ];
    many = ap length is ∙ length-append row (pass ∷ []) ∙ ap (λ m. m + 1) so_far.many;
  }

  pub all_passes : (n : ℕ) (row : List (Pass S E g)) → ArePassesUpTo label named locks n row →
      n ≡ length locks → ArePasses label named locks row
  all_passes n row so_far all = record {
    locks_are = map_same lock_of id_of row locks (so_far.many ∙ all)
        (λ k pass lock at also.
        let here = so_far.each k pass at in
        here.of.of ∙ ap id_of (one_item here.lock lock (sym here.there ∙ also)));
    known = λ k v at.
        let pass = item_at row k
        (omega (arith, slice_get_within (map view_of row) k v at, length-map row view_of)) in
        let here = so_far.each k pass.0 pass.1 in
        subst (IsKnown label (named k))
        (one_item (view_of pass.0) v
        (sym (slice_get-map view_of row k ∙ ap (option_map view_of) pass.1) ∙ at))
        (known_pass label (named k) here.lock pass.0 here.of);
  }
