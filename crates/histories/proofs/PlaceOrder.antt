-- Entries put into the order of their places, which are sorted by the queue's number.
use Rattle.std.proofs.Common.{◌≡◌, ℕ, ◌+◌, ◌<◌, ◌^◌, List, [], ◌∷◌, length, Bool, true, false, cond}
use Rattle.std.proofs.Common.{refl, sym, ap, subst, ◌∙◌, arith, map, get_or, inl, inr, ◌⊎◌}
use Rattle.std.proofs.Common.{unwrap_or, option_map, Option}
use Rattle.std.proofs.lemmas.Bool.{eqb-true}
use Rattle.std.proofs.Math.Path.{fun_ext}
use Rattle.std.specs.Prelude.{filter, ◌==◌}
use Rattle.std.specs.List.{All, range_with_len}
use Rattle.std.specs.List.Sorted.{IsPermutation, IsStableByKey, IsSortedByKey, ties}
use Rattle.std.specs.Ordering.{nat_cmp, is_lt}
use Rattle.std.proofs.lemmas.Bool.{cases_Bool}
use Rattle.std.proofs.lemmas.List.{ext_get_or, get_or-map, get_or_default, get_or_past, length-map}
use Rattle.std.proofs.lemmas.List.Elements.{All-nil, All-cons, All-head, All-tail}
use Rattle.std.proofs.lemmas.List.FromFn.{fill_by_all, length-range_with_len}
use Rattle.std.proofs.lemmas.List.Sorted.{All-permutation, length_permutation}
use Rattle.std.proofs.lemmas.Option.{slice_get_cases}
use Rattle.histories.specs.declared.entry.Entry.{Entry}
use Rattle.histories.specs.Grouping.{IsGrouped}
use Rattle.histories.specs.History.{is_of}
use Rattle.histories.specs.Rearrangement.{IsRearranged, AreByQueue, queue_at}
use Rattle.histories.proofs.QueueOrder.{entry_at, number_of, same_number}

-- a test holds of some item of a list, or of none, which are then left out
module _ {X : Type 0} (p : X → Bool) where
  some_or_none : (xs : List X) → ((x : X) × (p x ≡ true)) ⊎ All (λ x. p x ≡ false) xs
  some_or_none [] = inr (All-nil (λ x. p x ≡ false))
  some_or_none (x ∷ xs) = elim (cases_Bool (p x)) [
    | inl is ↦ inl (x, is)
    | inr is ↦ elim (some_or_none xs) [
      | inl found ↦ inl found
      | inr none ↦ inr (All-cons (λ x. p x ≡ false) x xs is none)
    ]
  ]

  filter_none : (xs : List X) → All (λ x. p x ≡ false) xs → filter p xs ≡ []
  filter_none [] none = refl
  filter_none (x ∷ xs) none =
      ap (λ b. cond b (x ∷ filter p xs) (filter p xs)) (All-head (λ x. p x ≡ false) x xs none)
      ∙ filter_none xs (All-tail (λ x. p x ≡ false) x xs none)

  filter_of_map : {Y : Type 0} (f : Y → X) (ys : List Y) →
      filter p (map f ys) ≡ map f (filter (λ y. p (f y)) ys)
  filter_of_map f [] = refl
  filter_of_map f (y ∷ ys) =
      ap (λ zs. cond (p (f y)) (f y ∷ zs) zs) (filter_of_map f ys) ∙ both (p (f y))
    where
      both : (b : Bool) →
          cond b (f y ∷ map f (filter (λ z. p (f z)) ys)) (map f (filter (λ z. p (f z)) ys))
          ≡ map f (cond b (y ∷ filter (λ z. p (f z)) ys) (filter (λ z. p (f z)) ys))
      both true = refl
      both false = refl

-- an entry's queue number where the list has the place, and 0 past its end
number_at : (es : List Entry) (place : ℕ) →
    queue_at es place ≡ number_of (get_or es place (entry_at 0))
number_at es place = elim (slice_get_cases es place).1 [
  | inl (x, within, found, is) ↦
      ap (λ (o : Option Entry). unwrap_or (option_map number_of o) 0) found
      ∙ ap number_of (sym is ∙ get_or_default es place x (entry_at 0) within)
  | inr (past, none) ↦
      ap (λ (o : Option Entry). unwrap_or (option_map number_of o) 0) none
      ∙ ap number_of (sym (get_or_past es place (entry_at 0) past))
]

abbrev entry_of : List Entry → ℕ → Entry
entry_of es place = get_or es place (entry_at 0)

-- the places of each queue's entries are the same in both orders
same_places : (es : List Entry) (places : List ℕ) →
    IsStableByKey (queue_at es) nat_cmp (range_with_len 0 (length es)) places →
    IsPermutation (range_with_len 0 (length es)) places → (queue : ℕ) →
    filter (λ place. is_of queue (entry_of es place)) places
    ≡ filter (λ place. is_of queue (entry_of es place)) (range_with_len 0 (length es))
same_places es places stable moved queue =
    let test : ℕ → Bool = λ place. is_of queue (entry_of es place) in
    let all = range_with_len 0 (length es) in
    elim (some_or_none test all) [
      | inl (x, is) ↦
          let number : queue_at es x ≡ queue = number_at es x ∙ eqb-true _ _ is in
          let tie : (place : ℕ) →
          ties (λ a b. is_lt (nat_cmp (queue_at es a) (queue_at es b))) x place ≡ test place =
          λ place.
          same_number (queue_at es x) (queue_at es place)
          ∙ ap (λ n. queue_at es place == n) number
          ∙ ap (λ n. n == queue) (number_at es place) in
          ap (λ (t : ℕ → Bool). filter t places) (fun_ext (λ place. sym (tie place)))
          ∙ stable x ∙ ap (λ (t : ℕ → Bool). filter t all) (fun_ext tie)
      | inr none ↦
          filter_none test places (All-permutation (λ x. test x ≡ false) all places moved none)
          ∙ sym (filter_none test all none)
    ]

-- entries rearranged by places that are sorted by the queue's number are grouped
pub rearranged_so : (es gs : List Entry) (places : List ℕ) →
    IsSortedByKey (queue_at es) nat_cmp places →
    IsStableByKey (queue_at es) nat_cmp (range_with_len 0 (length es)) places →
    IsPermutation (range_with_len 0 (length es)) places → length places ≡ length es →
    IsRearranged places es gs → IsGrouped es gs
rearranged_so es gs places sorted stable moved len is =
    let at : ℕ → Entry = entry_of es in
    let all = range_with_len 0 (length es) in
    let whole : es ≡ map at all = fill_by_all at es (length es) (entry_at 0) refl (λ k lk. refl) in
    let now : gs ≡ map at places =
    ext_get_or (entry_at 0) gs (map at places) (is.len ∙ sym len ∙ sym (length-map places at))
    (λ k lk. let lk' : k < length places = omega (arith, len, is.len) in
    is.each k (entry_at 0) lk' ∙ sym (get_or-map at places k 0 (entry_at 0) lk')) in
    let number : (k : ℕ) (d : Entry) → k < length gs →
    number_of (get_or gs k d) ≡ queue_at es (get_or places k 0) = λ k d lk.
    let lk' : k < length places = omega (arith, len, is.len) in
    ap number_of (get_or_default gs k d (entry_at 0) lk ∙ is.each k (entry_at 0) lk')
    ∙ sym (number_at es (get_or places k 0)) in
    record {
      ascend = λ k d low within.
          ap (λ n. is_lt (nat_cmp n (number_of (get_or gs k d)))) (number (k + 1) d within)
          ∙ ap (λ n. is_lt (nat_cmp (queue_at es (get_or places (k + 1) 0)) n))
          (number k d (omega arith))
          ∙ sorted k 0 low (omega (arith, len, is.len));
      same = λ queue.
          ap (λ (xs : List Entry). filter (is_of queue) xs) now
          ∙ filter_of_map (is_of queue) at places
          ∙ ap (map at) (same_places es places stable moved queue)
          ∙ sym (filter_of_map (is_of queue) at all)
          ∙ ap (λ (xs : List Entry). filter (is_of queue) xs) (sym whole);
    }

-- the places from 0 on, sorted by the queue's number
pub sorted_places : (es : List Entry) (firsts places : List ℕ) (count : ℕ) →
    firsts ≡ range_with_len 0 count → count ≡ length es → count < 2 ^ 32 →
    IsPermutation firsts places → IsSortedByKey (queue_at es) nat_cmp places →
    IsStableByKey (queue_at es) nat_cmp firsts places → AreByQueue es places
sorted_places es firsts places count firsts_are counted few moved sorted stable =
    let e : firsts ≡ range_with_len 0 (length es) =
    firsts_are ∙ ap (range_with_len 0) counted in
    let moved' : IsPermutation (range_with_len 0 (length es)) places =
    subst (λ (xs : List ℕ). IsPermutation xs places) e moved in
    let len : length places ≡ length es =
    length_permutation _ places moved' ∙ length-range_with_len 0 (length es) in
    record {
      few = omega (arith, len, counted);
      len = len;
      all = subst (λ n. IsPermutation (range_with_len 0 n) places) (sym len) moved';
      groups = λ gs is. rearranged_so es gs places sorted
          (subst (λ (xs : List ℕ). IsStableByKey (queue_at es) nat_cmp xs places) e stable)
          moved' len is;
    }
