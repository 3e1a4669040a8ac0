-- Ports at their places.
use Rattle.std.proofs.Common.{◌≡◌, ◌≢◌, ◌<◌, ◌≤◌, ◌+◌, ℕ, zero, suc, List, [], ◌∷◌, length}
use Rattle.std.proofs.Common.{Option, Some, None}
use Rattle.std.proofs.Common.{Bool, true, false, refl, sym, ap, ◌∙◌, drop, get_or, inl, inr, arith}
use Rattle.std.proofs.Common.{Result, Ok, Err, subst}
use Rattle.std.specs.Prelude.{◌==◌, if◌then◌else◌, option_map, slice_get, slice_set, IsSomeAnd}
use Rattle.std.specs.Prelude.{OnOk, OnErr, IfOk}
use Rattle.std.proofs.Math.Path.{fun_ext}
use Rattle.std.proofs.lemmas.Bool.{eq-eqb, ne_eqb}
use Rattle.std.proofs.lemmas.Bool.Decides.{eqb_tells}
use Rattle.std.proofs.lemmas.List.{drop_more, drop_all}
use Rattle.std.proofs.lemmas.Option.{get_or_from_slice_get, slice_get_within, slice_get-get_or}
use Rattle.solo_plane.specs.PortPlaces.{AreApart, place_in, stands_at}

-- the number at a port's place is its own
pub number_at : (numbers : List ℕ) (p place : ℕ) → place_in numbers p ≡ Some place →
    slice_get numbers place ≡ Some p
number_at [] p place is = absurd (cc)
number_at (n ∷ numbers) p place is =
    elim (eqb_tells p n) [
      | inl (test, same) ↦ first same (rw test at is)
      | inr (test, other) ↦
          below (place_in numbers p) (rw test at is) (λ j at_j. number_at numbers p j at_j)
    ]
  where
    first : p ≡ n → Some 0 ≡ Some place → slice_get (n ∷ numbers) place ≡ Some p
    first same here =
        let zero_ : 0 ≡ place = cc in
        ap (λ k. slice_get (n ∷ numbers) k) (sym zero_) ∙ ap (λ m. Some m) (sym same)

    below : (o : Option ℕ) → option_map suc o ≡ Some place →
        ((j : ℕ) → o ≡ Some j → slice_get numbers j ≡ Some p) →
        slice_get (n ∷ numbers) place ≡ Some p
    below None here go = absurd (cc)
    below (Some j) here go =
        let next : suc j ≡ place = cc in
        ap (λ k. slice_get (n ∷ numbers) k) (sym next) ∙ go j refl

-- a place is that of one port
same_place : (numbers : List ℕ) (p q place : ℕ) → place_in numbers p ≡ Some place →
    place_in numbers q ≡ Some place → p ≡ q
same_place numbers p q place is also =
    let one : Some p ≡ Some q =
    sym (number_at numbers p place is) ∙ number_at numbers q place also in
    cc

-- where no number is there twice, each is found where it stands
pub found_at : (numbers : List ℕ) (p place : ℕ) → AreApart numbers →
    slice_get numbers place ≡ Some p → place_in numbers p ≡ Some place
found_at [] p place apart is = absurd (cc)
found_at (n ∷ numbers) p zero apart is =
    let same : n ≡ p = cc in rw (eq-eqb p n (sym same)) refl
found_at (n ∷ numbers) p (suc place) apart is =
    let within : place < length numbers = slice_get_within numbers place p is in
    let own : get_or numbers place 0 ≡ p = get_or_from_slice_get numbers place p 0 is in
    let other : p ≢ n =
    λ same. apart 0 (suc place) (omega arith) (omega (arith, within)) (own ∙ same) in
    rw (ne_eqb p n other) (ap (option_map suc) (found_at numbers p place
    (λ i k before in_. apart (suc i) (suc k) (omega (arith, before)) (omega (arith, in_))) is))

-- the number that was read at a place
pub found_so : (numbers : List ℕ) (p place : ℕ) → AreApart numbers → place < length numbers →
    p ≡ get_or numbers place 0 → place_in numbers p ≡ Some place
found_so numbers p place apart within is =
    found_at numbers p place apart
    (slice_get-get_or numbers place 0 within ∙ ap (λ m. Some m) (sym is))

-- where a port is, which isn't in front of this place
abbrev pub place_from : ℕ → List ℕ → ℕ → Option ℕ
place_from at numbers port = option_map (λ k. at + k) (place_in (drop at numbers) port)

-- one look more for a port
look_on : (numbers : List ℕ) (at port : ℕ) → at < length numbers →
    place_from at numbers port ≡ (if port == get_or numbers at 0 then Some at
    else place_from (at + 1) numbers port)
look_on numbers at port within =
    ap (λ ns. option_map (λ k. at + k) (place_in ns port)) (drop_more numbers at 0 within)
    ∙ either (port == get_or numbers at 0) (place_in (drop (at + 1) numbers) port)
  where
    either : (b : Bool) (o : Option ℕ) →
        option_map (λ k. at + k) (if b then Some 0 else option_map suc o)
        ≡ (if b then Some at else option_map (λ k. at + 1 + k) o)
    either true o = ap (λ k. Some k) (omega arith)
    either false None = refl
    either false (Some k) = ap (λ k. Some k) (omega arith)

pub place_here : (numbers : List ℕ) (at port : ℕ) → at < length numbers →
    port ≡ get_or numbers at 0 → place_from at numbers port ≡ Some at
place_here numbers at port within same =
    look_on numbers at port within
    ∙ ap (λ b. if b then Some at else place_from (at + 1) numbers port)
    (eq-eqb port (get_or numbers at 0) same)

pub place_behind : (numbers : List ℕ) (at port : ℕ) → at < length numbers →
    port ≢ get_or numbers at 0 → place_from at numbers port ≡ place_from (at + 1) numbers port
place_behind numbers at port within other =
    look_on numbers at port within
    ∙ ap (λ b. if b then Some at else place_from (at + 1) numbers port)
    (ne_eqb port (get_or numbers at 0) other)

pub none_behind : (numbers : List ℕ) (at port : ℕ) → length numbers ≤ at →
    place_from at numbers port ≡ None
none_behind numbers at port past =
    ap (λ ns. option_map (λ k. at + k) (place_in ns port)) (drop_all at numbers past)

module _ {S : Type 0} where
  set_within : (xs : List S) (i : ℕ) (y : S) → i < length xs →
      slice_get (slice_set xs i y) i ≡ Some y
  set_within [] i y within = absurd (omega (arith, within))
  set_within (a ∷ xs) zero y within = refl
  set_within (a ∷ xs) (suc i) y within = set_within xs i y (omega (arith, within))

  set_other : (xs : List S) (i k : ℕ) (y : S) → i ≢ k →
      slice_get (slice_set xs i y) k ≡ slice_get xs k
  set_other [] i k y other = refl
  set_other (a ∷ xs) zero zero y other = absurd (other refl)
  set_other (a ∷ xs) zero (suc k) y other = refl
  set_other (a ∷ xs) (suc i) zero y other = refl
  set_other (a ∷ xs) (suc i) (suc k) y other =
      set_other xs i k y (λ same. other (ap suc same))

  -- how a port stands, by what is read at its place
  pub stands_here : (numbers : List ℕ) (states : List S) (port place : ℕ) (old : S) →
      place_in numbers port ≡ Some place → place < length states →
      old ≡ get_or states place old → stands_at states (place_in numbers port) ≡ Some old
  stands_here numbers states port place old is within read =
      ap (stands_at states) is ∙ slice_get-get_or states place old within
      ∙ ap (λ s. Some s) (sym read)

  -- another port stays as it is
  pub state_stays : (numbers : List ℕ) (states : List S) (port place : ℕ) (new : S) →
      place_in numbers port ≡ Some place → (q : ℕ) → q ≢ port →
      stands_at (slice_set states place new) (place_in numbers q)
      ≡ stands_at states (place_in numbers q)
  state_stays numbers states port place new is q other = by_place (place_in numbers q) refl
    where
      by_place : (o : Option ℕ) → place_in numbers q ≡ o →
          stands_at (slice_set states place new) o ≡ stands_at states o
      by_place None at_q = refl
      by_place (Some k) at_q =
          set_other states place k new
          (λ same. other (same_place numbers q port place
          (at_q ∙ ap (λ m. Some m) (sym same)) is))

  -- what holds of a state that is put at a port's place
  pub on_place : (P : S → Type 0) (numbers : List ℕ) (states : List S) (port place : ℕ)
      (new : S) → place_in numbers port ≡ Some place → place < length states → P new →
      IsSomeAnd (stands_at (slice_set states place new) (place_in numbers port)) P
  on_place P numbers states port place new is within has =
      subst (λ (o : Option S). IsSomeAnd o P)
      (sym (ap (stands_at (slice_set states place new)) is ∙ set_within states place new within))
      has

  module _ {X : Type 0} (g : S → X) where
    -- what is shown of each port
    abbrev shown : List ℕ → List S → ℕ → Option X
    shown numbers states q = option_map g (stands_at states (place_in numbers q))

    -- one of the states changes
    pub changed_at_place : (f : X → X) (numbers : List ℕ) (states : List S) (port place : ℕ)
        (old new : S) → place_in numbers port ≡ Some place → place < length states →
        old ≡ get_or states place old → g new ≡ f (g old) →
        shown numbers (slice_set states place new)
        ≡ (λ q. if q == port then option_map f (shown numbers states q)
        else shown numbers states q)
    changed_at_place f numbers states port place old new is within read made = fun_ext (λ q.
        elim (eqb_tells q port) [
          | inl (test, same) ↦ rw test (this q (ap (place_in numbers) same ∙ is))
          | inr (test, other) ↦
              rw test (ap (option_map g) (state_stays numbers states port place new is q other))
        ])
      where
        this : (q : ℕ) → place_in numbers q ≡ Some place →
            shown numbers (slice_set states place new) q ≡ option_map f (shown numbers states q)
        this q here =
            ap (λ o. option_map g (stands_at (slice_set states place new) o)) here
            ∙ ap (option_map g) (set_within states place new within)
            ∙ ap (λ x. Some x) made
            ∙ sym (ap (λ o. option_map f (option_map g o))
            (stands_here numbers states q place old here within read))

    -- one of the states changes, and shows the same
    pub unchanged_at_place : (numbers : List ℕ) (states : List S) (port place : ℕ)
        (old new : S) → place_in numbers port ≡ Some place → place < length states →
        old ≡ get_or states place old → g new ≡ g old →
        shown numbers (slice_set states place new) ≡ shown numbers states
    unchanged_at_place numbers states port place old new is within read made =
        changed_at_place (λ x. x) numbers states port place old new is within read made
        ∙ fun_ext (λ q. same (q == port) (shown numbers states q))
      where
        same : (b : Bool) (o : Option X) → (if b then option_map (λ x. x) o else o) ≡ o
        same true None = refl
        same true (Some x) = refl
        same false o = refl

-- results, and what follows from what holds of them
module _ {T E : Type 0} where
  pub on_ok_so : (r : Result T E) (A B : Type 0) → (A → B) → OnOk r A → OnOk r B
  on_ok_so (Ok x) A B so holds = so holds
  on_ok_so (Err e) A B so holds = holds

  pub on_err_so : (r : Result T E) (A B : Type 0) → (A → B) → OnErr r A → OnErr r B
  on_err_so (Ok x) A B so holds = holds
  on_err_so (Err e) A B so holds = so holds

  pub if_ok_so : (r : Result T E) (A B : T → Type 0) → ((x : T) → A x → B x) → IfOk r A →
      IfOk r B
  if_ok_so (Ok x) A B so holds = so x holds
  if_ok_so (Err e) A B so holds = holds
