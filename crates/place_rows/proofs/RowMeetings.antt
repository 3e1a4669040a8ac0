-- Rows that meet: the first hears all others, and then tells each of them.
use Rattle.std.proofs.Common.{◌≡◌, ◌≢◌, ◌<◌, ◌≤◌, ◌+◌, ◌⊎◌, ⊎_elim, ℕ, zero, suc, List, [], ◌∷◌}
use Rattle.std.proofs.Common.{◌++◌, length, refl, sym, ap, ◌∙◌, subst, arith, inl, inr, Bool, true}
use Rattle.std.specs.Prelude.{slice_get, slice_set, Option, Some, None, option_map, IfSome, nat_eq}
use Rattle.std.specs.Prelude.{nat_lt}
use Rattle.std.specs.List.{AllZip}
use mathlib.Core.List.{IsPrefix}
use Rattle.std.proofs.lemmas.List.{length-append}
use Rattle.std.proofs.lemmas.Option.{slice_get_within}
use Rattle.std.proofs.lemmas.Bool.{cases_Bool, eqb-true, eqb-false}
use Rattle.std.proofs.lemmas.Bool.Decides.{nat_tests}
use Rattle.turn_lock.specs.Parts.{Tree, Empty, union, is_normal}
use Rattle.turn_lock.specs.Places.{longer}
use Rattle.histories.specs.declared.entry.Entry.{Entry}
use Rattle.place_rows.specs.Lists.{Every, OneIs, EveryBelow}
use Rattle.place_rows.specs.Rows.{Known}
use Rattle.place_rows.specs.Joining.{seen_at, Begins, part_in, together_at}
use Rattle.place_rows.specs.Meeting.{Told, ToldUpTo, SharesAlone, Sees, HaveMet}
use Rattle.place_rows.specs.Meeting.{AreNormal, TellsFirst, TellsRow, HaveShared, HasGathered}
use Rattle.place_rows.specs.Meeting.{HasSpread}
use Rattle.place_rows.proofs.Lists.{one_item, item_at, get_same, get_other, prefix_self}
use Rattle.place_rows.proofs.RowJoins.{begins_longer}

-- ---- lists of which one item changes

module _ {X : Type 0} where
  get_beyond : (xs : List X) (k : ℕ) → length xs ≤ k → slice_get xs k ≡ None
  get_beyond [] k most = refl
  get_beyond (x ∷ xs) zero most = absurd (omega (arith, most))
  get_beyond (x ∷ xs) (suc k) most = get_beyond xs k (omega (arith, most))

  every_set : (P : X → Type 0) (xs : List X) (i : ℕ) (x : X) → Every P xs → P x →
      Every P (slice_set xs i x)
  every_set P [] i x all new = tt
  every_set P (y ∷ xs) zero x all new = (new, all.1)
  every_set P (y ∷ xs) (suc i) x all new = (all.0, every_set P xs i x all.1 new)

  every_get : (P : X → Type 0) (xs : List X) (i : ℕ) (x : X) → Every P xs →
      slice_get xs i ≡ Some x → P x
  every_get P [] i x all at = absurd (cc at)
  every_get P (y ∷ xs) zero x all at = subst P (one_item y x at) all.0
  every_get P (y ∷ xs) (suc i) x all at = every_get P xs i x all.1 at

  one_at : (P : X → Type 0) (xs : List X) (i : ℕ) (x : X) → slice_get xs i ≡ Some x → P x →
      OneIs P xs
  one_at P [] i x at is = absurd (cc at)
  one_at P (y ∷ xs) zero x at is = inl (subst P (sym (one_item y x at)) is)
  one_at P (y ∷ xs) (suc i) x at is = inr (one_at P xs i x at is)

  every_below : (P : X → Type 0) (n : ℕ) (xs : List X) → length xs ≤ n → EveryBelow n P xs →
      Every P xs
  every_below P n [] few all = tt
  every_below P n (x ∷ xs) few all = (
    all 0 x (omega (arith, few)) refl,
    every_below P n xs (omega (arith, few))
        (λ k y less at. all (suc k) y (omega (arith, few, slice_get_within xs k y at)) at),
  )

module _ {A B : Type 0} (R : A → B → Type 0) where
  zip_set : (xs : List A) (ys : List B) (i : ℕ) (y z : B) → AllZip R xs ys →
      slice_get ys i ≡ Some y → ((x : A) → R x y → R x z) → AllZip R xs (slice_set ys i z)
  zip_set [] [] i y z zip at goes = absurd (cc at)
  zip_set [] (w ∷ ys) i y z zip at goes = absurd zip
  zip_set (x ∷ xs) [] i y z zip at goes = absurd zip
  zip_set (x ∷ xs) (w ∷ ys) zero y z zip at goes =
      (goes x (subst (R x) (one_item w y at) zip.0), zip.1)
  zip_set (x ∷ xs) (w ∷ ys) (suc i) y z zip at goes = (zip.0, zip_set xs ys i y z zip.1 at goes)

  zip_get : (xs : List A) (ys : List B) (i : ℕ) (y : B) → AllZip R xs ys →
      slice_get ys i ≡ Some y → (x : A) × ((slice_get xs i ≡ Some x) × R x y)
  zip_get [] [] i y zip at = absurd (cc at)
  zip_get [] (w ∷ ys) i y zip at = absurd zip
  zip_get (x ∷ xs) [] i y zip at = absurd zip
  zip_get (x ∷ xs) (w ∷ ys) zero y zip at = (x, (refl, subst (R x) (one_item w y at) zip.0))
  zip_get (x ∷ xs) (w ∷ ys) (suc i) y zip at = zip_get xs ys i y zip.1 at

  zip_long : (xs : List A) (ys : List B) → AllZip R xs ys → length ys ≡ length xs
  zip_long [] [] zip = refl
  zip_long [] (y ∷ ys) zip = absurd zip
  zip_long (x ∷ xs) [] zip = absurd zip
  zip_long (x ∷ xs) (y ∷ ys) zip = omega (arith, zip_long xs ys zip.1)

zip_same : {X : Type 0} (R : X → X → Type 0) (xs : List X) → ((x : X) → R x x) → AllZip R xs xs
zip_same R [] each = tt
zip_same R (x ∷ xs) each = (each x, zip_same R xs each)

-- ---- one row tells another, at one place

record TellsAt (k : ℕ) (froms intos froms' intos' : List Known) : Type 0 where
  v : Known
  w : Known
  v' : Known
  w' : Known
  at : slice_get froms k ≡ Some v
  also : slice_get intos k ≡ Some w
  then_ : slice_get froms' k ≡ Some v'
  too : slice_get intos' k ≡ Some w'
  told : Told v w v' w'

record NothingAt (k : ℕ) (froms intos froms' intos' : List Known) : Type 0 where
  at : slice_get froms k ≡ None
  also : slice_get intos k ≡ None
  then_ : slice_get froms' k ≡ None
  too : slice_get intos' k ≡ None

told_at : (n k : ℕ) (froms intos froms' intos' : List Known) → length froms ≡ n →
    ToldUpTo n froms intos froms' intos' →
    TellsAt k froms intos froms' intos' ⊎ NothingAt k froms intos froms' intos'
told_at n k froms intos froms' intos' long told =
    elim (cases_Bool (nat_lt k n)) [
      | inl h ↦ (let few : k < n = grind (arith, nat_tests) in
          let v = item_at froms k (omega (arith, few, long)) in
          let w = item_at intos k (omega (arith, few, long, told.both)) in
          let done = told.done k v.0 w.0 few v.1 w.1 in
          inl (record {
            v = v.0;
            w = w.0;
            v' = done.from_then;
            w' = done.into_then;
            at = v.1;
            also = w.1;
            then_ = done.from_at;
            too = done.into_at;
            told = done.told;
          }))
      | inr h ↦ (let most : n ≤ k = grind (arith, nat_tests) in
          inr (record {
            at = get_beyond froms k (omega (arith, most, long));
            also = get_beyond intos k (omega (arith, most, long, told.both));
            then_ = get_beyond froms' k (omega (arith, most, long, told.as_many));
            too = get_beyond intos' k (omega (arith, most, long, told.both, told.others_many));
          }))
    ]

abbrev seen_in : Option Known → Option (List Entry)
seen_in o = option_map (λ (v : Known). v.seen) o

module _ (n : ℕ) (froms intos froms' intos' : List Known) (long : length froms ≡ n)
    (told : ToldUpTo n froms intos froms' intos') where
  -- who tells has seen the same
  seen_kept : (k : ℕ) → seen_at k froms' ≡ seen_at k froms
  seen_kept k =
      ⊎_elim (λ (t : TellsAt k froms intos froms' intos').
      ap seen_in t.then_ ∙ ap (λ (x : Known). Some x.seen) t.told.first ∙ sym (ap seen_in t.at))
      (λ (none : NothingAt k froms intos froms' intos').
      ap seen_in none.then_ ∙ sym (ap seen_in none.at))
      (told_at n k froms intos froms' intos' long told)

  from_normal : AreNormal froms'
  from_normal k v' then_ =
      ⊎_elim (λ (t : TellsAt k froms intos froms' intos').
      subst (λ (x : Known). is_normal x.part ≡ true) (one_item t.v' v' (sym t.then_ ∙ then_))
      t.told.normal.0)
      (λ (none : NothingAt k froms intos froms' intos'). absurd (cc (sym none.then_ ∙ then_)))
      (told_at n k froms intos froms' intos' long told)

  into_normal : AreNormal intos'
  into_normal k w' then_ =
      ⊎_elim (λ (t : TellsAt k froms intos froms' intos').
      subst (λ (x : Known). is_normal x.part ≡ true) (one_item t.w' w' (sym t.too ∙ then_))
      t.told.normal.1)
      (λ (none : NothingAt k froms intos froms' intos'). absurd (cc (sym none.too ∙ then_)))
      (told_at n k froms intos froms' intos' long told)

  parts_kept : (k : ℕ) → union (part_in (slice_get froms' k)) (part_in (slice_get intos' k))
      ≡ union (part_in (slice_get froms k)) (part_in (slice_get intos k))
  parts_kept k =
      ⊎_elim (λ (t : TellsAt k froms intos froms' intos').
      ap (λ (o : Option Known). union (part_in o) (part_in (slice_get intos' k))) t.then_
      ∙ ap (λ (o : Option Known). union t.v'.part (part_in o)) t.too
      ∙ t.told.parts
      ∙ sym (ap (λ (o : Option Known). union (part_in o) (part_in (slice_get intos k))) t.at
      ∙ ap (λ (o : Option Known). union t.v.part (part_in o)) t.also))
      (λ (none : NothingAt k froms intos froms' intos').
      ap (λ (o : Option Known). union (part_in o) (part_in (slice_get intos' k))) none.then_
      ∙ ap (λ (o : Option Known). union Empty (part_in o)) none.too
      ∙ sym (ap (λ (o : Option Known). union (part_in o) (part_in (slice_get intos k))) none.at
      ∙ ap (λ (o : Option Known). union Empty (part_in o)) none.also))
      (told_at n k froms intos froms' intos' long told)

  from_shares : SharesAlone froms froms'
  from_shares = record {
    as_many = told.as_many;
    each = λ k v v' at then_.
        ⊎_elim (λ (t : TellsAt k froms intos froms' intos').
        subst (λ (x : Known). x ≡ record v { seen = x.seen; part = x.part })
        (one_item t.v' v' (sym t.then_ ∙ then_))
        (subst (λ (x : Known). t.v' ≡ record x { seen = t.v'.seen; part = t.v'.part })
        (one_item t.v v (sym t.at ∙ at))
        (t.told.first ∙ sym (ap (λ (x : Known). record t.v { seen = x.seen; part = x.part })
        t.told.first))))
        (λ (none : NothingAt k froms intos froms' intos'). absurd (cc (sym none.at ∙ at)))
        (told_at n k froms intos froms' intos' long told);
  }

  into_shares : SharesAlone intos intos'
  into_shares = record {
    as_many = told.others_many;
    each = λ k w w' at then_.
        ⊎_elim (λ (t : TellsAt k froms intos froms' intos').
        subst (λ (x : Known). x ≡ record w { seen = x.seen; part = x.part })
        (one_item t.w' w' (sym t.too ∙ then_))
        (subst (λ (x : Known). t.w' ≡ record x { seen = t.w'.seen; part = t.w'.part })
        (one_item t.w w (sym t.also ∙ at))
        (t.told.second ∙ sym (ap (λ (x : Known). record t.w { seen = x.seen; part = x.part })
        t.told.second))))
        (λ (none : NothingAt k froms intos froms' intos'). absurd (cc (sym none.also ∙ at)))
        (told_at n k froms intos froms' intos' long told);
  }

  -- who was told has seen what one of them had, and the lists of both begin it
  into_seen : (k : ℕ) (list : List Entry) → Sees k list intos' → TellsAt k froms intos froms' intos'
  into_seen k list sees =
      ⊎_elim (λ (t : TellsAt k froms intos froms' intos'). t)
      (λ (none : NothingAt k froms intos froms' intos'). absurd (cc (sym (ap seen_in none.too)
      ∙ sees)))
      (told_at n k froms intos froms' intos' long told)

-- ---- lists that were seen

sees_begins : (k : ℕ) (seen list : List Entry) (known : List Known) → Sees k seen known →
    IsPrefix seen list → Begins k list known
sees_begins k seen list known sees begins =
    subst (λ (o : Option (List Entry)). IfSome o (λ s. IsPrefix s list)) (sym sees) begins

same_begins : (k : ℕ) (list : List Entry) (known other : List Known) →
    seen_at k other ≡ seen_at k known → Begins k list known → Begins k list other
same_begins k list known other same begins =
    subst (λ (o : Option (List Entry)). IfSome o (λ s. IsPrefix s list)) (sym same) begins

begins_sees : (k : ℕ) (seen list : List Entry) (known : List Known) → Begins k list known →
    Sees k seen known → IsPrefix seen list
begins_sees k seen list known begins sees =
    subst (λ (o : Option (List Entry)). IfSome o (λ s. IsPrefix s list)) sees begins

all_begin : (k : ℕ) (list : List Entry) (rows news : List (List Known)) →
    AllZip (λ known known_then. (k : ℕ) → seen_at k known_then ≡ seen_at k known) rows news →
    Every (Begins k list) rows → Every (Begins k list) news
all_begin k list [] [] zip all = tt
all_begin k list [] (n ∷ news) zip all = absurd zip
all_begin k list (r ∷ rows) [] zip all = absurd zip
all_begin k list (r ∷ rows) (n ∷ news) zip all =
    (same_begins k list r n (zip.0 k) all.0, all_begin k list rows news zip.1 all.1)

longer_cases : (P : List Entry → Type 0) (xs ys : List Entry) → P xs → P ys → P (longer xs ys)
longer_cases P xs ys one two =
    elim (cases_Bool (nat_lt (length xs) (length ys))) [
      | inl h ↦ rw h two
      | inr h ↦ rw h one
    ]

-- of a list and a beginning of it the longer one is the list
longer_whole : (xs ys : List Entry) → IsPrefix xs ys → longer xs ys ≡ ys
longer_whole xs ys begins =
    elim (cases_Bool (nat_lt (length xs) (length ys))) [
      | inl h ↦ rw h refl
      | inr h ↦ rw h (whole begins.0 begins.1
          (let less : length ys ≤ length xs = grind (arith, nat_tests) in
          omega (arith, less, ap length begins.1, length-append xs begins.0)))
    ]
  where
    whole : (more : List Entry) → xs ++ more ≡ ys → length more ≤ 0 → xs ≡ ys
    whole [] is none = sym (Rattle.std.proofs.Common.append-nil xs) ∙ is
    whole (e ∷ more) is none = absurd (omega (arith, none))

-- ---- parts

-- what is known of parts
pub record Laws : Type 0 where
  pub sides : (p q : Tree) → is_normal p ≡ true → is_normal q ≡ true → union p q ≡ union q p
  pub order : (p q r : Tree) → is_normal p ≡ true → is_normal q ≡ true → is_normal r ≡ true →
      union (union p q) r ≡ union p (union q r)
  pub both : (p q : Tree) → is_normal p ≡ true → is_normal q ≡ true →
      is_normal (union p q) ≡ true

part_normal : (k : ℕ) (known : List Known) → AreNormal known →
    is_normal (part_in (slice_get known k)) ≡ true
part_normal k known normal = inner (slice_get known k) (normal k)
  where
    inner : (o : Option Known) → ((v : Known) → o ≡ Some v → is_normal v.part ≡ true) →
        is_normal (part_in o) ≡ true
    inner None h = refl
    inner (Some v) h = h v refl

module _ (laws : Laws) where
  -- the last two of three parts change places
  last_two : (p q r : Tree) → is_normal p ≡ true → is_normal q ≡ true → is_normal r ≡ true →
      union (union p q) r ≡ union (union p r) q
  last_two p q r a b c =
      laws.order p q r a b c ∙ ap (union p) (laws.sides q r b c) ∙ sym (laws.order p r q a c b)

  -- a part that moves between the first of several and another
  together_same : (k : ℕ) (t t' : Tree) (rows : List (List Known)) (i : ℕ) (r r' : List Known) →
      is_normal t ≡ true → is_normal t' ≡ true → Every AreNormal rows → AreNormal r' →
      slice_get rows i ≡ Some r →
      union t (part_in (slice_get r k)) ≡ union t' (part_in (slice_get r' k)) →
      together_at k t' (slice_set rows i r') ≡ together_at k t rows
  together_same k t t' [] i r r' a b all normal at same = absurd (cc at)
  together_same k t t' (x ∷ rows) zero r r' a b all normal at same =
      ap (λ p. together_at k p rows)
      (sym same ∙ ap (λ (y : List Known). union t (part_in (slice_get y k))) (sym (one_item x r
      at)))
  together_same k t t' (x ∷ rows) (suc i) r r' a b all normal at same =
      let p = part_in (slice_get x k) in
      let p_normal = part_normal k x all.0 in
      let r_normal = part_normal k r (every_get AreNormal rows i r all.1 at) in
      let r'_normal = part_normal k r' normal in
      together_same k (union t p) (union t' p) rows i r r' (laws.both t p a p_normal)
      (laws.both t' p b p_normal) all.1 normal at
      (last_two t p (part_in (slice_get r k)) a p_normal r_normal
      ∙ ap (λ u. union u p) same
      ∙ last_two t' (part_in (slice_get r' k)) p b r'_normal p_normal)

-- ---- whoever tells whom

shares_trans : (x y z : List Known) → SharesAlone x y → SharesAlone y z → SharesAlone x z
shares_trans x y z one two = record {
  as_many = two.as_many ∙ one.as_many;
  each = λ k v u at then_.
      let w = item_at y k (omega (arith, slice_get_within x k v at, one.as_many)) in
      two.each k w.0 u w.1 then_
      ∙ ap (λ (p : Known). record p { seen = u.seen; part = u.part }) (one.each k v w.0 at w.1);
}

shares_self : (x : List Known) → SharesAlone x x
shares_self x = record {
  as_many = refl;
  each = λ k v w at also.
      let same : v ≡ w = one_item v w (sym at ∙ also) in
      sym same ∙ ap (λ (p : Known). record v { seen = p.seen; part = p.part }) same;
}

nothing_told : (places : ℕ) (rows : List (List Known)) →
    Every (λ (known : List Known). length known ≡ places) rows → Every AreNormal rows →
    HaveShared places rows rows
nothing_told places rows long normal = record {
  long = long;
  normal = normal;
  shares = zip_same SharesAlone rows shares_self;
  parts = λ k. refl;
}

pub gather_none : (places : ℕ) (first : List Known) (rows : List (List Known)) →
    Every (λ (known : List Known). length known ≡ places) (first ∷ rows) →
    Every AreNormal (first ∷ rows) → HasGathered places 0 first first rows rows
gather_none places first rows long normal = record {
  shared = nothing_told places (first ∷ rows) long normal;
  same = zip_same (λ (known known_then : List Known). (k : ℕ) → seen_at k known_then ≡ seen_at k
      known) rows
      (λ r k. refl);
  among = λ k list sees. inl sees;
  behind = λ k list sees. (
    sees_begins k list list first sees (prefix_self list),
    λ j r less at. absurd (omega (arith, less)),
  );
}

module _ (laws : Laws) (places n : ℕ) (first before after : List Known)
    (rows olds news : List (List Known)) where
  -- one of the rows and the first told each other
  told_so : HaveShared places (first ∷ rows) (before ∷ olds) → (row row_then : List Known) →
      slice_get olds n ≡ Some row → news ≡ slice_set olds n row_then → length after ≡ places →
      length row_then ≡ places → AreNormal after → AreNormal row_then →
      SharesAlone before after → SharesAlone row row_then →
      ((k : ℕ) → union (part_in (slice_get before k)) (part_in (slice_get row k))
      ≡ union (part_in (slice_get after k)) (part_in (slice_get row_then k))) →
      HaveShared places (first ∷ rows) (after ∷ news)
  told_so was row row_then had has long row_long normal row_normal shares row_shares same = record {
    long = (
      long,
      subst (Every (λ (known : List Known). length known ≡ places)) (sym has)
          (every_set (λ (known : List Known). length known ≡ places) olds n row_then was.long.1
          row_long),
    );
    normal = (
      normal,
      subst (Every AreNormal) (sym has)
          (every_set AreNormal olds n row_then was.normal.1 row_normal),
    );
    shares = (
      shares_trans first before after was.shares.0 shares,
      subst (AllZip SharesAlone rows) (sym has)
          (zip_set SharesAlone rows olds n row row_then was.shares.1 had
          (λ r so. shares_trans r row row_then so row_shares)),
    );
    parts = λ k.
        let p = part_in (slice_get before k) in
        let p' = part_in (slice_get after k) in
        ap (λ (l : List (List Known)). together_at k p' l) has
        ∙ together_same laws k p p' olds n row row_then (part_normal k before was.normal.0)
        (part_normal k after normal) was.normal.1 row_normal had (same k)
        ∙ was.parts k;
  }

  -- the row tells the first
  first_told : HaveShared places (first ∷ rows) (before ∷ olds) →
      TellsFirst places n before after olds news → HaveShared places (first ∷ rows) (after ∷ news)
  first_told was t =
      let row_long = every_get (λ (known : List Known). length known ≡ places) olds n t.row
      was.long.1 t.had in
      let row_normal = from_normal places t.row before t.row_then after row_long t.told in
      let first_normal = into_normal places t.row before t.row_then after row_long t.told in
      told_so was t.row t.row_then t.had t.has (t.told.others_many ∙ was.long.0)
      (t.told.as_many ∙ row_long) first_normal row_normal
      (into_shares places t.row before t.row_then after row_long t.told)
      (from_shares places t.row before t.row_then after row_long t.told)
      (λ k.
      let p = part_in (slice_get before k) in
      let q = part_in (slice_get t.row k) in
      let p' = part_in (slice_get after k) in
      let q' = part_in (slice_get t.row_then k) in
      laws.sides p q (part_normal k before was.normal.0)
      (part_normal k t.row (every_get AreNormal olds n t.row was.normal.1 t.had))
      ∙ sym (parts_kept places t.row before t.row_then after row_long t.told k)
      ∙ laws.sides q' p' (part_normal k t.row_then row_normal) (part_normal k after first_normal))

  -- the first tells the row
  row_told : HaveShared places (first ∷ rows) (before ∷ olds) →
      TellsRow places n before after olds news → HaveShared places (first ∷ rows) (after ∷ news)
  row_told was t =
      let row_long = every_get (λ (known : List Known). length known ≡ places) olds n t.row
      was.long.1 t.had in
      told_so was t.row t.row_then t.had t.has (t.told.as_many ∙ was.long.0)
      (t.told.others_many ∙ row_long)
      (from_normal places before t.row after t.row_then was.long.0 t.told)
      (into_normal places before t.row after t.row_then was.long.0 t.told)
      (from_shares places before t.row after t.row_then was.long.0 t.told)
      (into_shares places before t.row after t.row_then was.long.0 t.told)
      (λ k. sym (parts_kept places before t.row after t.row_then was.long.0 t.told k))

  abbrev SameSeen : List Known → List Known → Type 0
  SameSeen known known_then = (k : ℕ) → seen_at k known_then ≡ seen_at k known

  pub gather_one : HasGathered places n first before rows olds →
      TellsFirst places n before after olds news →
      HasGathered places (n + 1) first after rows news
  gather_one was t = record {
    shared = first_told was.shared t;
    same = subst (AllZip SameSeen rows) (sym t.has)
        (zip_set SameSeen rows olds n t.row t.row_then was.same t.had
        (λ r so k. seen_kept places t.row before t.row_then after row_long t.told k ∙ so k));
    among = λ k list sees.
        let at = into_seen places t.row before t.row_then after row_long t.told k list sees in
        let list_is : longer at.w.seen at.v.seen ≡ list = list_of k list sees in
        subst (λ l. OneIs (Sees k l) (first ∷ rows)) list_is
        (longer_cases (λ l. OneIs (Sees k l) (first ∷ rows)) at.w.seen at.v.seen
        (was.among k at.w.seen (ap seen_in at.also))
        (inr (one_at (Sees k at.v.seen) rows n own.0 own.1.0 (sym (own.1.1 k)
        ∙ ap seen_in at.at))));
    behind = λ k list sees.
        let at = into_seen places t.row before t.row_then after row_long t.told k list sees in
        let w'_is : at.w'.seen ≡ list = seen_is k list sees in
        let w_front : IsPrefix at.w.seen list = subst (IsPrefix at.w.seen) w'_is at.told.behind in
        let v_front : IsPrefix at.v.seen list = subst (IsPrefix at.v.seen) w'_is at.told.begins in
        let old = was.behind k at.w.seen (ap seen_in at.also) in (
          begins_longer k at.w.seen list first w_front old.0,
          λ j r less there. elim (cases_Bool (nat_eq j n)) [
            | inl same ↦ (let e : j ≡ n = eqb-true j n same in
                let is : own.0 ≡ r = one_item own.0 r (sym own.1.0 ∙ ap (slice_get rows) (sym e)
                ∙ there) in
                subst (Begins k list) is
                (sees_begins k at.v.seen list own.0 (sym (own.1.1 k) ∙ ap seen_in at.at) v_front))
            | inr other ↦ begins_longer k at.w.seen list r w_front
                (old.1 j r (omega (arith, less, eqb-false j n other)) there)
          ],
        );
  }
    where
      row_long : length t.row ≡ places
      row_long = every_get (λ (known : List Known). length known ≡ places) olds n t.row
          was.shared.long.1 t.had

      own : (r : List Known) × ((slice_get rows n ≡ Some r) × SameSeen r t.row)
      own = zip_get SameSeen rows olds n t.row was.same t.had

      seen_is : (k : ℕ) (list : List Entry) (sees : Sees k list after) →
          (into_seen places t.row before t.row_then after row_long t.told k list sees).w'.seen ≡
          list
      seen_is k list sees =
          let at = into_seen places t.row before t.row_then after row_long t.told k list sees in
          one_item at.w'.seen list (sym (ap seen_in at.too) ∙ sees)

      list_of : (k : ℕ) (list : List Entry) (sees : Sees k list after) →
          longer (into_seen places t.row before t.row_then after row_long t.told k list sees).w.seen
          (into_seen places t.row before t.row_then after row_long t.told k list sees).v.seen ≡ list
      list_of k list sees =
          let at = into_seen places t.row before t.row_then after row_long t.told k list sees in
          sym (ap (λ (x : Known). x.seen) at.told.second) ∙ seen_is k list sees

  pub spread_one : HasSpread places n first before rows olds →
      TellsRow places n before after olds news → HasSpread places (n + 1) first after rows news
  spread_one was t = record {
    shared = row_told was.shared t;
    among = λ k list sees. was.among k list (still k list sees);
    behind = λ k list sees. was.behind k list (still k list sees);
    done = λ k list sees j r less there. elim (cases_Bool (nat_eq j n)) [
      | inl same ↦ (let e : j ≡ n = eqb-true j n same in
          let is : t.row_then ≡ r =
          one_item t.row_then r
          (sym (get_same olds n t.row_then (slice_get_within olds n t.row t.had))
          ∙ ap (slice_get (slice_set olds n t.row_then)) (sym e)
          ∙ ap (λ (l : List (List Known)). slice_get l j) (sym t.has) ∙ there) in
          subst (Sees k list) is (now k list sees))
      | inr other ↦ was.done k list (still k list sees) j r
          (omega (arith, less, eqb-false j n other))
          (sym (get_other olds n j t.row_then (eqb-false j n other))
          ∙ ap (λ (l : List (List Known)). slice_get l j) (sym t.has) ∙ there)
    ];
    rest = λ k list sees.
        subst (Every (Begins k list)) (sym t.has)
        (every_set (Begins k list) olds n t.row_then (was.rest k list (still k list sees))
        (sees_begins k list list t.row_then (now k list sees) (prefix_self list)));
  }
    where
      still : (k : ℕ) (list : List Entry) → Sees k list after → Sees k list before
      still k list sees =
          sym (seen_kept places before t.row after t.row_then was.shared.long.0 t.told k) ∙ sees

      now : (k : ℕ) (list : List Entry) → Sees k list after → Sees k list t.row_then
      now k list sees =
          ⊎_elim (λ (at : TellsAt k before t.row after t.row_then).
          let v_is : at.v.seen ≡ list =
          one_item at.v.seen list (sym (ap seen_in at.at) ∙ still k list sees) in
          let front : IsPrefix at.w.seen list =
          begins_sees k at.w.seen list t.row
          (every_get (Begins k list) olds n t.row (was.rest k list (still k list sees)) t.had)
          (ap seen_in at.also) in
          ap seen_in at.too ∙ ap (λ (x : Known). Some x.seen) at.told.second
          ∙ ap (λ (l : List Entry). Some (longer at.w.seen l)) v_is
          ∙ ap (λ (l : List Entry). Some l) (longer_whole at.w.seen list front))
          (λ (none : NothingAt k before t.row after t.row_then).
          absurd (cc (sym (ap seen_in none.then_) ∙ sees)))
          (told_at places k before t.row after t.row_then was.shared.long.0 t.told)

pub turn_round : (places : ℕ) (first after : List Known) (rows news : List (List Known)) →
    HasGathered places (length rows) first after rows news →
    HasSpread places 0 first after rows news
turn_round places first after rows news was = record {
  shared = was.shared;
  among = was.among;
  behind = λ k list sees. all k list sees;
  done = λ k list sees j r less there. absurd (omega (arith, less));
  rest = λ k list sees. all_begin k list rows news was.same (all k list sees).1;
}
  where
    all : (k : ℕ) (list : List Entry) → Sees k list after → Every (Begins k list) (first ∷ rows)
    all k list sees =
        let old = was.behind k list sees in
        (old.0, every_below (Begins k list) (length rows) rows (omega arith) old.1)

pub have_met : (places : ℕ) (first after : List Known) (rows news : List (List Known)) →
    HasSpread places (length rows) first after rows news →
    HaveMet places (first ∷ rows) (after ∷ news)
have_met places first after rows news was = record {
  each = λ k few.
      let here = item_at after k (omega (arith, few, was.shared.long.0)) in
      let list = here.0.seen in
      let sees : Sees k list after = ap seen_in here.1 in
      record {
        longest = list;
        among = was.among k list sees;
        behind = was.behind k list sees;
        seen = (
          sees,
          every_below (Sees k list) (length rows) news
              (omega (arith, zip_long SharesAlone rows news was.shared.shares.1))
              (was.done k list sees),
        );
        parts = was.shared.parts k;
      };
  shares = was.shared.shares;
}
