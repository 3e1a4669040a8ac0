-- What telling leaves untouched: a row's own entries, and its balance.
use Rattle.std.proofs.Common.{◌≡◌, ◌<◌, ◌≤◌, ℕ, suc, List, [], ◌∷◌, ◌++◌, length, refl, sym, ap}
use Rattle.std.proofs.Common.{◌∙◌, subst, arith, ◌⊎◌, ⊎_elim, inl, inr}
use Rattle.std.specs.Prelude.{slice_get, Some, sum_by, nat_lt}
use mathlib.Core.List.{IsPrefix}
use Rattle.std.proofs.lemmas.Option.{slice_get_within}
use Rattle.std.proofs.lemmas.Bool.{cases_Bool}
use Rattle.std.proofs.lemmas.Bool.Decides.{nat_tests}
use Rattle.turn_lock.specs.Places.{longer, IsPlaced}
use Rattle.turn_lock.specs.Views.{HasSeenOwn}
use Rattle.packet_entry.specs.declared.packet.Card.{Card}
use Rattle.histories.specs.declared.entry.Entry.{Entry}
use Rattle.histories.specs.declared.histories.Lost.{Lost}
use Rattle.histories.specs.History.{AreLegal}
use Rattle.histories.specs.Journeys.{Arrival, IsSoundBut}
use Rattle.histories.specs.Moves.{Move, moves_after}
use Rattle.packet_moves.specs.declared.setting.Setting.{Setting}
use Rattle.locked_place.specs.Points.{points_after}
use Rattle.place_rows.specs.Rows.{Known}
use Rattle.place_rows.specs.Shares.{at_places, own_moves, all_moves, IsBalancedBut}
use Rattle.place_rows.specs.Shares.{notices_at, sent_at}
use Rattle.place_rows.specs.Meeting.{Told, ToldUpTo, KeepsOwn}
use Rattle.place_rows.proofs.Lists.{one_item, item_at, placed_longer, prefix_self}
use Rattle.place_rows.proofs.ItemSums.{at_longer, moves_longer, moves_long, points_longer}
use Rattle.place_rows.proofs.ItemSums.{points_long}

-- a pass that has the same own entries, and has seen as much or more
pub record SeesMore (v w : Known) : Type 0 where
  pub begins : IsPrefix v.seen w.seen
  pub own : w.own ≡ v.own
  pub origin : w.origin ≡ v.origin

module _ {X : Type 0} (tell : List Entry → List Entry → List X)
    (more : (before es fs : List Entry) →
    tell before (es ++ fs) ≡ tell before es ++ tell (before ++ es) fs)
    (long : (before es : List Entry) → length (tell before es) ≡ length es) where
  pub told_same : (v w : Known) → HasSeenOwn v → SeesMore v w →
      at_places (tell [] w.seen) w.own ≡ at_places (tell [] v.seen) v.own
  told_same v w placed is =
      ap (at_places (tell [] w.seen)) is.own
      ∙ ap (λ (es : List Entry). at_places (tell [] es) v.own) (sym is.begins.1)
      ∙ ap (λ (xs : List X). at_places xs v.own) (more [] v.seen is.begins.0)
      ∙ at_longer (tell [] v.seen) (tell v.seen is.begins.0) 0 (length v.seen) v.own placed
      (omega (arith, long [] v.seen))

moves_same : (v w : Known) → HasSeenOwn v → SeesMore v w → own_moves w ≡ own_moves v
moves_same = told_same moves_after moves_longer moves_long

sent_same : (port : ℕ) (v w : Known) → HasSeenOwn v → SeesMore v w →
    sent_at port w ≡ sent_at port v
sent_same port v w placed is =
    ap (sum_by (notices_at port)) (told_same points_after points_longer points_long v w placed is)

-- ---- rows

-- each pass of a row sees as much or more, and what it sees is legal
pub record RowSeesMore (olds news : List Known) : Type 0 where
  pub as_many : length news ≡ length olds
  pub each : (k : ℕ) (v w : Known) → slice_get olds k ≡ Some v → slice_get news k ≡ Some w →
      SeesMore v w
  pub legal : (k : ℕ) (w : Known) → slice_get news k ≡ Some w → AreLegal w.seen

all_same : (olds news : List Known) → length news ≡ length olds →
    ((k : ℕ) (v w : Known) → slice_get olds k ≡ Some v → slice_get news k ≡ Some w →
    own_moves w ≡ own_moves v) → all_moves news ≡ all_moves olds
all_same [] [] many each = refl
all_same [] (w ∷ news) many each = absurd (omega (arith, many))
all_same (v ∷ olds) [] many each = absurd (omega (arith, many))
all_same (v ∷ olds) (w ∷ news) many each =
    ap (λ (ms : List Move). ms ++ all_moves news) (each 0 v w refl refl)
    ∙ ap (λ (ms : List Move). own_moves v ++ ms)
    (all_same olds news (omega (arith, many)) (λ k x y at also. each (suc k) x y at also))

pub still_balanced : (s : Setting) (owed : List Arrival) (entered : List Card) (lost : List Lost)
    (olds news : List Known) → RowSeesMore olds news →
    IsBalancedBut s owed entered olds lost → IsBalancedBut s owed entered news lost
still_balanced s owed entered lost olds news more is = record {
  legal = more.legal;
  placed = λ k w at.
      let v = item_at olds k (omega (arith, slice_get_within news k w at, more.as_many)) in
      let sees = more.each k v.0 w v.1 at in
      subst (IsPlaced w.seen) (sym sees.own)
      (placed_longer v.0.seen w.seen v.0.own sees.begins (is.placed k v.0 v.1));
  sound = subst (λ (ms : List Move).
      IsSoundBut s.tables s.key owed entered ms lost)
      (sym (all_same olds news more.as_many
      (λ k v w at also. moves_same v w (is.placed k v at) (more.each k v w at also))))
      is.sound;
}

-- ---- telling

from_sees : (v w v' w' : Known) → Told v w v' w' → SeesMore v v'
from_sees v w v' w' told = record {
  begins = subst (λ (x : Known). IsPrefix v.seen x.seen) (sym told.first)
      (prefix_self v.seen);
  own = ap (λ (x : Known). x.own) told.first;
  origin = ap (λ (x : Known). x.origin) told.first;
}

into_sees : (v w v' w' : Known) → Told v w v' w' → SeesMore w w'
into_sees v w v' w' told = record {
  begins = told.behind;
  own = ap (λ (x : Known). x.own) told.second;
  origin = ap (λ (x : Known). x.origin) told.second;
}

-- the longer of two lists is one of them
longer_is : (P : List Entry → Type 0) (xs ys : List Entry) → P xs → P ys → P (longer xs ys)
longer_is P xs ys one two =
    elim (cases_Bool (nat_lt (length xs) (length ys))) [
      | inl h ↦ rw h two
      | inr h ↦ rw h one
    ]

-- at one place, what telling made of both passes
pub told_here : (n k : ℕ) (froms intos froms' intos' : List Known) (v w v' w' : Known) →
    ToldUpTo n froms intos froms' intos' → slice_get froms k ≡ Some v →
    slice_get intos k ≡ Some w → slice_get froms' k ≡ Some v' → slice_get intos' k ≡ Some w' →
    Told v w v' w' ⊎ ((v' ≡ v) × (w' ≡ w))
told_here n k froms intos froms' intos' v w v' w' told at also then_ too =
    elim (cases_Bool (nat_lt k n)) [
      | inl h ↦ (let few : k < n = grind (arith, nat_tests) in
          let done = told.done k v w few at also in
          inl (subst (λ (x : Known). Told v w x w') (one_item done.from_then v' (sym done.from_at
          ∙ then_))
          (subst (λ (x : Known). Told v w done.from_then x)
          (one_item done.into_then w' (sym done.into_at ∙ too)) done.told)))
      | inr h ↦ (let most : n ≤ k = grind (arith, nat_tests) in
          inr (
            one_item v' v (sym then_ ∙ told.rest k most ∙ at),
            one_item w' w (sym too ∙ told.others k most ∙ also),
          ))
    ]

sees_itself : (v w : Known) → w ≡ v → SeesMore v w
sees_itself v w same = record {
  begins = subst (λ (x : Known). IsPrefix v.seen x.seen) (sym same) (prefix_self v.seen);
  own = ap (λ (x : Known). x.own) same;
  origin = ap (λ (x : Known). x.origin) same;
}

module _ (n : ℕ) (froms intos froms' intos' : List Known)
    (told : ToldUpTo n froms intos froms' intos') where
  pub from_each : (k : ℕ) (v v' : Known) → slice_get froms k ≡ Some v → slice_get froms' k ≡ Some
      v' →
      SeesMore v v'
  from_each k v v' at then_ =
      let few = slice_get_within froms k v at in
      let w = item_at intos k (omega (arith, few, told.both)) in
      let w' = item_at intos' k (omega (arith, few, told.both, told.others_many)) in
      ⊎_elim (λ (t : Told v w.0 v' w'.0). from_sees v w.0 v' w'.0 t)
      (λ (same : (v' ≡ v) × (w'.0 ≡ w.0)). sees_itself v v' same.0)
      (told_here n k froms intos froms' intos' v w.0 v' w'.0 told at w.1 then_ w'.1)

  pub into_each : (k : ℕ) (w w' : Known) → slice_get intos k ≡ Some w → slice_get intos' k ≡ Some
      w' →
      SeesMore w w'
  into_each k w w' at then_ =
      let few = slice_get_within intos k w at in
      let v = item_at froms k (omega (arith, few, told.both)) in
      let v' = item_at froms' k (omega (arith, few, told.both, told.as_many)) in
      ⊎_elim (λ (t : Told v.0 w v'.0 w'). into_sees v.0 w v'.0 w' t)
      (λ (same : (v'.0 ≡ v.0) × (w' ≡ w)). sees_itself w w' same.1)
      (told_here n k froms intos froms' intos' v.0 w v'.0 w' told v.1 at v'.1 then_)

  pub from_row : ((k : ℕ) (v : Known) → slice_get froms k ≡ Some v → AreLegal v.seen) →
      RowSeesMore froms froms'
  from_row legal = record {
    as_many = told.as_many;
    each = from_each;
    legal = λ k v' at.
        let few = slice_get_within froms' k v' at in
        let v = item_at froms k (omega (arith, few, told.as_many)) in
        let w = item_at intos k (omega (arith, few, told.as_many, told.both)) in
        let w' = item_at intos' k (omega (arith, few, told.as_many, told.both, told.others_many)) in
        ⊎_elim (λ (t : Told v.0 w.0 v' w'.0). subst (λ (x : Known). AreLegal x.seen) (sym t.first)
        (legal k v.0 v.1))
        (λ (same : (v' ≡ v.0) × (w'.0 ≡ w.0)). subst (λ (x : Known). AreLegal x.seen) (sym same.0)
        (legal k v.0 v.1))
        (told_here n k froms intos froms' intos' v.0 w.0 v' w'.0 told v.1 w.1 at w'.1);
  }

  pub into_row : ((k : ℕ) (v : Known) → slice_get froms k ≡ Some v → AreLegal v.seen) →
      ((k : ℕ) (w : Known) → slice_get intos k ≡ Some w → AreLegal w.seen) →
      RowSeesMore intos intos'
  into_row legal also_legal = record {
    as_many = told.others_many;
    each = into_each;
    legal = λ k w' at.
        let few = slice_get_within intos' k w' at in
        let w = item_at intos k (omega (arith, few, told.others_many)) in
        let v = item_at froms k (omega (arith, few, told.others_many, told.both)) in
        let v' = item_at froms' k (omega (arith, few, told.others_many, told.both, told.as_many)) in
        ⊎_elim (λ (t : Told v.0 w.0 v'.0 w'). subst (λ (x : Known). AreLegal x.seen) (sym t.second)
        (longer_is AreLegal w.0.seen v.0.seen (also_legal k w.0 w.1) (legal k v.0 v.1)))
        (λ (same : (v'.0 ≡ v.0) × (w' ≡ w.0)). subst (λ (x : Known). AreLegal x.seen) (sym same.1)
        (also_legal k w.0 w.1))
        (told_here n k froms intos froms' intos' v.0 w.0 v'.0 w' told v.1 w.1 v'.1 at);
  }

pub keeps_own : (v w : Known) → HasSeenOwn v → SeesMore v w → KeepsOwn v w
keeps_own v w placed is = record {
  own = is.own;
  origin = is.origin;
  sent = λ port. sent_same port v w placed is;
}
