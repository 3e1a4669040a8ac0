-- Lists of places of which each leads back from the other, as two of their places are exchanged.
use Rattle.std.proofs.Common.{◌≡◌, ◌≢◌, ◌<◌, ◌+◌, ℕ, List, length, get_or, set, refl, sym, ap, ◌∙◌}
use Rattle.std.proofs.Common.{arith, inl, inr, get_or-set_same, get_or-set_other, zero-add}
use Rattle.std.specs.List.{swap, range_with_len}
use Rattle.std.specs.List.Sorted.{IsPermutation}
use Rattle.std.proofs.lemmas.List.FromFn.{length-range_with_len, get_or-range_with_len}
use Rattle.std.proofs.lemmas.List.Sorted.{IsPermutation-keeps}
use Rattle.std.proofs.lemmas.Bool.{cases_eq}
use Rattle.std.proofs.lemmas.List.Edits.{swapped_from_swap, length-swap}
use Rattle.histories.specs.Rearrangement.{ArePlaces, LeadsBack, AreInverse}

-- one list is the other with two of its places exchanged
pub record AreSwapped {X : Type 0} (xs ys : List X) (a b : ℕ) : Type 0 where
  pub len : length ys ≡ length xs
  pub first : (d : X) → a < length xs → b < length xs → get_or ys a d ≡ get_or xs b d
  pub second : (d : X) → a < length xs → b < length xs → get_or ys b d ≡ get_or xs a d
  pub other : (k : ℕ) (d : X) → k ≢ a → k ≢ b → get_or ys k d ≡ get_or xs k d

pub swapped : {X : Type 0} (xs ys : List X) (a b : ℕ) → a < length xs → b < length xs →
    ys ≡ swap xs a b → AreSwapped xs ys a b
swapped xs ys a b la lb is =
    record {
      len = ap length is ∙ length-swap xs a b;
      first = λ d _ _. (swapped_from_swap xs ys a b d la lb is).0;
      second = λ d _ _. (swapped_from_swap xs ys a b d la lb is).1;
      other = λ k d na nb. (swapped_from_swap xs ys a b d la lb is).2 k na nb;
    }

flipped : {X : Type 0} {xs ys : List X} {a b : ℕ} → AreSwapped xs ys a b → AreSwapped xs ys b a
flipped is =
    record {
      len = is.len;
      first = λ d lb la. is.second d la lb;
      second = λ d lb la. is.first d la lb;
      other = λ k d nb na. is.other k d na nb;
    }

-- exchanged on both sides, they still lead back
leads_back_swapped : (f t g u : List ℕ) (i j a b : ℕ) → LeadsBack f t → get_or f i 0 ≡ a →
    get_or f j 0 ≡ b → i < length f → j < length f → AreSwapped f g i j → AreSwapped t u a b →
    LeadsBack g u
leads_back_swapped f t g u i j a b is ea eb li lj fs ts =
    let wi = is.within i li in
    let wj = is.within j lj in
    let si = is.same i li in
    let sj = is.same j lj in
    let fi = fs.first 0 li lj in
    let fj = fs.second 0 li lj in
    let la : a < length t = omega (arith, ea) in
    let lb : b < length t = omega (arith, eb) in
    let ta = ts.first 0 la lb in
    let tb = ts.second 0 la lb in
    let ia : get_or t a 0 ≡ i = ap (λ x. get_or t x 0) (sym ea) ∙ si in
    let jb : get_or t b 0 ≡ j = ap (λ x. get_or t x 0) (sym eb) ∙ sj in
    record {
      within = λ k lk. elim (cases_eq k i) [
        | inl at ↦ grind (arith, fs.len, ts.len)
        | inr ni ↦ elim (cases_eq k j) [
          | inl at ↦ grind (arith, fs.len, ts.len)
          | inr nj ↦
              let lk' : k < length f = omega (arith, fs.len) in
              let wk = is.within k lk' in
              let ek = fs.other k 0 ni nj in
              omega (arith, ts.len, wk, ek)
        ]
      ];
      same = λ k lk. elim (cases_eq k i) [
        | inl at ↦
            ap (λ x. get_or u (get_or g x 0) 0) at ∙ ap (λ x. get_or u x 0) (fi ∙ eb) ∙ tb ∙ ia
            ∙ sym at
        | inr ni ↦ elim (cases_eq k j) [
          | inl at ↦
              ap (λ x. get_or u (get_or g x 0) 0) at ∙ ap (λ x. get_or u x 0) (fj ∙ ea) ∙ ta ∙ jb
              ∙ sym at
          | inr nj ↦
              let lk' : k < length f = omega (arith, fs.len) in
              let sk = is.same k lk' in
              ap (λ x. get_or u x 0) (fs.other k 0 ni nj)
              ∙ ts.other (get_or f k 0) 0
              (λ at. ni (sym sk ∙ ap (λ x. get_or t x 0) at ∙ ia))
              (λ at. nj (sym sk ∙ ap (λ x. get_or t x 0) at ∙ jb))
              ∙ sk
        ]
      ];
    }

-- Up to a place the items stand where they belong. `from` says where those still to come are now,
-- `to` where each of them goes; `first` and `xs` are the lists at the beginning.
pub record IsSettling {X : Type 0} (first from to : List ℕ) (xs ys : List X) (done : ℕ) : Type 0
  where
    pub inverse : AreInverse from to
    pub len : length from ≡ length first
    pub items_len : length ys ≡ length first
    pub found : (k : ℕ) (d : X) → k < length first →
        get_or ys (get_or from k 0) d ≡ get_or xs (get_or first k 0) d
    pub settled : (k : ℕ) → k < done → get_or from k 0 ≡ k

-- one place more
pub settling_more : {X : Type 0} (first from to from' to' : List ℕ) (xs ys ys' : List X) (n : ℕ) →
    IsSettling first from to xs ys n → n < length first →
    ys' ≡ swap ys n (get_or from n 0) → from' ≡ swap from n (get_or to n 0) →
    to' ≡ swap to n (get_or from n 0) → IsSettling first from' to' xs ys' (n + 1)
settling_more {X} first from to from' to' xs ys ys' n is ln ey ef et =
    let s = get_or from n 0 in
    let t = get_or to n 0 in
    let lf : n < length from = omega (arith, is.len) in
    let lt : n < length to = omega (arith, is.len, is.inverse.len) in
    let ls : s < length to = is.inverse.forth.within n lf in
    let lt' : t < length from = is.inverse.back.within n lt in
    let ss : get_or to s 0 ≡ n = is.inverse.forth.same n lf in
    let tt' : get_or from t 0 ≡ n = is.inverse.back.same n lt in
    let fs : AreSwapped from from' n t = swapped from from' n t lf lt' ef in
    let ts : AreSwapped to to' n s = swapped to to' n s lt ls et in
    let ny : n < length ys = omega (arith, is.items_len) in
    let sy : s < length ys = omega (arith, is.items_len, is.len, is.inverse.len) in
    let ws : AreSwapped ys ys' n s = swapped ys ys' n s ny sy ey in
    record {
      inverse = record {
        len = ts.len ∙ is.inverse.len ∙ sym fs.len;
        forth = leads_back_swapped from to from' to' n t s n is.inverse.forth refl tt' lf lt' fs
            (flipped ts);
        back = leads_back_swapped to from to' from' n s t n is.inverse.back refl ss lt ls ts
            (flipped fs);
      };
      len = fs.len ∙ is.len;
      items_len = ws.len ∙ is.items_len;
      found = λ k d lk. elim (cases_eq k n) [
        | inl at ↦
            ap (λ x. get_or ys' (get_or from' x 0) d) at
            ∙ ap (λ x. get_or ys' x d) (fs.first 0 lf lt' ∙ tt') ∙ ws.first d ny sy
            ∙ is.found n d ln ∙ ap (λ x. get_or xs (get_or first x 0) d) (sym at)
        | inr nn ↦ elim (cases_eq k t) [
          | inl at ↦
              ap (λ x. get_or ys' (get_or from' x 0) d) at
              ∙ ap (λ x. get_or ys' x d) (fs.second 0 lf lt') ∙ ws.second d ny sy
              ∙ ap (λ x. get_or ys x d) (sym tt') ∙ ap (λ x. get_or ys (get_or from x 0) d) (sym at)
              ∙ is.found k d lk
          | inr nt ↦
              let sk = is.inverse.forth.same k (omega (arith, is.len)) in
              ap (λ x. get_or ys' x d) (fs.other k 0 nn nt)
              ∙ ws.other (get_or from k 0) d
              (λ at. nt (sym sk ∙ ap (λ x. get_or to x 0) at))
              (λ at. nn (sym sk ∙ ap (λ x. get_or to x 0) at ∙ ss))
              ∙ is.found k d lk
        ]
      ];
      settled = λ k lk. elim (cases_eq k n) [
        | inl at ↦ ap (λ x. get_or from' x 0) at ∙ fs.first 0 lf lt' ∙ tt' ∙ sym at
        | inr nn ↦
            let low : k < n = omega arith in
            fs.other k 0 nn (λ at. nn (sym (is.settled k low) ∙ ap (λ x. get_or from x 0) at ∙ tt'))
            ∙ is.settled k low
      ];
    }

pub settling_none : {X : Type 0} (first to : List ℕ) (xs : List X) → AreInverse first to →
    length first ≡ length xs → IsSettling first first to xs xs 0
settling_none first to xs inverse len =
    record {
      inverse = inverse;
      len = refl;
      items_len = sym len;
      found = λ k d lk. refl;
      settled = λ k lk. absurd (omega arith);
    }

-- ---- an order of the places has an inverse

has_inverse : (n : ℕ) (from : List ℕ) → IsPermutation (range_with_len 0 n) from →
    (to : List ℕ) × AreInverse from to
has_inverse n from moved =
    IsPermutation-keeps (range_with_len 0 n) (λ l. (g : List ℕ) × AreInverse l g)
    (range_with_len 0 n, record { len = refl; forth = itself; back = itself })
    (λ l i j li lj (g, is).
    let li' = is.forth.within i li in
    let lj' = is.forth.within j lj in
    let si = is.forth.same i li in
    let sj = is.forth.same j lj in
    let a = get_or l i 0 in
    let b = get_or l j 0 in
    let ls : AreSwapped l (swap l i j) i j = swapped l (swap l i j) i j li lj refl in
    let gs : AreSwapped g (swap g a b) a b = swapped g (swap g a b) a b li' lj' refl in (
      swap g a b,
      record {
        len = gs.len ∙ is.len ∙ sym ls.len;
        forth = leads_back_swapped l g _ _ i j a b is.forth refl refl li lj ls gs;
        back = leads_back_swapped g l _ _ a b i j is.back si sj li' lj' gs ls;
      },
    ))
    from moved
  where
    itself : LeadsBack (range_with_len 0 n) (range_with_len 0 n)
    itself = record {
      within = λ k lk. let e = length-range_with_len 0 n in
          let at = get_or-range_with_len 0 n k 0 (omega (arith, e)) in omega (arith, e, at);
      same = λ k lk. let e = length-range_with_len 0 n in
          let at : get_or (range_with_len 0 n) k 0 ≡ k =
          get_or-range_with_len 0 n k 0 (omega (arith, e)) ∙ zero-add k in
          ap (λ x. get_or (range_with_len 0 n) x 0) at ∙ at;
    }

-- as the places are written one by one where the other list has them
pub inverse_more : (from to : List ℕ) (n : ℕ) → ArePlaces from →
    length to ≡ length from → n < length from →
    ((k : ℕ) → k < n → get_or to (get_or from k 0) 0 ≡ k) →
    (k : ℕ) → k < n + 1 → get_or (set to (get_or from n 0) n) (get_or from k 0) 0 ≡ k
inverse_more from to n moved len ln so k lk =
    let found = has_inverse (length from) from moved in
    let g = found.0 in
    let is : AreInverse from g = found.1 in
    let within : get_or from n 0 < length to =
    omega (arith, len, is.len, is.forth.within n ln) in
    elim (cases_eq k n) [
      | inl at ↦
          ap (λ x. get_or (set to (get_or from n 0) n) (get_or from x 0) 0) at
          ∙ get_or-set_same to (get_or from n 0) n 0 within ∙ sym at
      | inr ne ↦
          get_or-set_other to (get_or from n 0) (get_or from k 0) n 0
          (λ at. ne (sym (is.forth.same k (omega arith)) ∙ ap (λ x. get_or g x 0) at
          ∙ is.forth.same n ln))
          ∙ so k (omega arith)
    ]

pub inverse_all : (from to : List ℕ) → ArePlaces from →
    length to ≡ length from →
    ((k : ℕ) → k < length from → get_or to (get_or from k 0) 0 ≡ k) → AreInverse from to
inverse_all from to moved len so =
    let found = has_inverse (length from) from moved in
    let g = found.0 in
    let is : AreInverse from g = found.1 in
    let same : (k : ℕ) → k < length to → get_or to k 0 ≡ get_or g k 0 = λ k lk.
    let lk' : k < length g = omega (arith, is.len) in
    ap (λ x. get_or to x 0) (sym (is.back.same k lk'))
    ∙ so (get_or g k 0) (is.back.within k lk') in
    record {
      len = len;
      forth = record {
        within = λ k lk. omega (arith, is.len, is.forth.within k lk);
        same = so;
      };
      back = record {
        within = λ k lk. let e = same k lk in
            let w = is.back.within k (omega (arith, is.len)) in omega (arith, e, w);
        same = λ k lk.
            ap (λ x. get_or from x 0) (same k lk) ∙ is.back.same k (omega (arith, is.len));
      };
    }

-- each place of such an order is one of the list's
pub place_within : (from : List ℕ) (k : ℕ) → ArePlaces from → k < length from →
    get_or from k 0 < length from
place_within from k moved lk =
    let found = has_inverse (length from) from moved in
    let is : AreInverse from found.0 = found.1 in
    omega (arith, is.len, is.forth.within k lk)
