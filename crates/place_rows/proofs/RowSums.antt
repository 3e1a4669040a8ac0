-- Sums over all rows, place by place.
use Rattle.std.proofs.Common.{◌≡◌, ◌≤◌, ◌+◌, ℕ, zero, suc, List, [], ◌∷◌, ◌++◌, length, refl, sym}
use Rattle.std.proofs.Common.{ap, ◌∙◌, subst, arith, drop}
use Rattle.std.specs.Prelude.{slice_get, Option, Some, None, option_map, option_to_list, sum_by}
use Rattle.std.specs.Prelude.{IfSome}
use Rattle.std.specs.List.{range_with_len}
use mathlib.Core.List.{IsPrefix}
use Rattle.std.proofs.lemmas.List.Sums.{sum_by-cons, sum_by-append}
use Rattle.turn_lock.specs.Views.{HasSeenOwn}
use Rattle.histories.specs.declared.entry.Entry.{Entry}
use Rattle.place_rows.specs.Lists.{Every, AllFrom}
use Rattle.place_rows.specs.Rows.{Known}
use Rattle.place_rows.specs.Shares.{at_places}
use Rattle.place_rows.specs.Joining.{own_at, own_sum, Begins}
use Rattle.place_rows.specs.Ending.{IsListOf}
use Rattle.place_rows.proofs.Lists.{every_mapped}
use Rattle.place_rows.proofs.ItemSums.{at_longer, at_all}

-- ---- swapping sums
abbrev pub at_or : {X : Type 0} → (X → ℕ) → Option X → ℕ
at_or h None = 0
at_or h (Some x) = h x

drop_none : {X : Type 0} (xs : List X) (n : ℕ) → length xs ≤ n → drop n xs ≡ []
drop_none [] zero h = refl
drop_none [] (suc n) h = refl
drop_none (x ∷ xs) zero h = absurd (omega (arith, h))
drop_none (x ∷ xs) (suc n) h = drop_none xs n (omega (arith, h))

drop_suc : {X : Type 0} (h : X → ℕ) (xs : List X) (n : ℕ) →
    sum_by h (drop n xs) ≡ at_or h (slice_get xs n) + sum_by h (drop (suc n) xs)
drop_suc h [] zero = omega arith
drop_suc h [] (suc n) = omega arith
drop_suc h (x ∷ xs) zero = sum_by-cons h x xs
drop_suc h (x ∷ xs) (suc n) = drop_suc h xs n

drop_sum : {X : Type 0} (h : X → ℕ) (xs : List X) (n : ℕ) →
    sum_by h (drop n xs) ≡ at_or h (slice_get xs n) + sum_by h (drop (n + 1) xs)
drop_sum h xs n =
    let next : suc n ≡ n + 1 = omega arith in
    subst (λ m. sum_by h (drop n xs) ≡ at_or h (slice_get xs n) + sum_by h (drop m xs)) next
    (drop_suc h xs n)

sums_add : {X : Type 0} (f g h : X → ℕ) (xs : List X) → ((x : X) → f x ≡ g x + h x) →
    sum_by f xs ≡ sum_by g xs + sum_by h xs
sums_add f g h [] each = refl
sums_add f g h (x ∷ xs) each =
    omega (
      arith,
      each x,
      sums_add f g h xs each,
      sum_by-cons f x xs,
      sum_by-cons g x xs,
      sum_by-cons h x xs,
    )

sums_none : {X : Type 0} (f : X → ℕ) (xs : List X) → Every (λ x. f x ≡ 0) xs → sum_by f xs ≡ 0
sums_none f [] all = refl
sums_none f (x ∷ xs) all = omega (arith, all.0, sums_none f xs all.1, sum_by-cons f x xs)

pub swapped : (h : Known → ℕ) (count : List Entry → ℕ) (n : ℕ) (lists : List (List Entry))
    (rows : List (List Known)) → Every (λ ws. length ws ≡ n + length lists) rows →
    AllFrom (λ k l. sum_by (λ (ws : List Known). at_or h (slice_get ws k)) rows ≡ count l) n lists →
    sum_by (λ (ws : List Known). sum_by h (drop n ws)) rows ≡ sum_by count lists
swapped h count n [] rows long all =
    sums_none (λ (ws : List Known). sum_by h (drop n ws)) rows
    (every_mapped (λ ws. length ws ≡ n + length {A = List Entry} []) (λ ws. sum_by h (drop n ws) ≡
    0) rows
    (λ ws is. ap (sum_by h) (drop_none ws n (omega (arith, is)))) long)
swapped h count n (l ∷ ls) rows long all =
    let rest = swapped h count (n + 1) ls rows
    (every_mapped (λ ws. length ws ≡ n + length (l ∷ ls)) (λ ws. length ws ≡ n + 1 + length ls) rows
    (λ ws is. omega (arith, is)) long) all.1 in
    omega (
      arith,
      sums_add (λ (ws : List Known). sum_by h (drop n ws)) (λ (ws : List Known). at_or h (slice_get
          ws n))
          (λ (ws : List Known). sum_by h (drop (n + 1) ws)) rows (λ ws. drop_sum h ws n),
      all.0,
      rest,
      sum_by-cons count l ls,
    )

-- ---- one place
module _ {X : Type 0} (tell : List Entry → List X)
    (grows : (es fs : List Entry) → (more : List X) × (tell (es ++ fs) ≡ tell es ++ more))
    (long : (es : List Entry) → length (tell es) ≡ length es) (f : X → ℕ) where
  abbrev weigh : Known → ℕ
  weigh v = sum_by f (at_places (tell v.seen) v.own)

  abbrev one_item_sum : List X → ℕ → ℕ
  one_item_sum xs k = sum_by f (option_to_list (slice_get xs k))

  index_sum : (xs : List X) (ks : List ℕ) → sum_by f (at_places xs ks) ≡ sum_by (one_item_sum xs) ks
  index_sum xs [] = refl
  index_sum xs (k ∷ ks) =
      omega (
        arith,
        sum_by-append f (option_to_list (slice_get xs k)) (at_places xs ks),
        index_sum xs ks,
        sum_by-cons (one_item_sum xs) k ks,
      )

  in_list : (v : Known) (list : List Entry) → HasSeenOwn v → IsPrefix v.seen list →
      weigh v ≡ sum_by (one_item_sum (tell list)) v.own
  in_list v list placed begins =
      let more = grows v.seen begins.0 in
      ap (sum_by f)
      (sym (at_longer (tell v.seen) more.0 0 (length v.seen) v.own placed (omega (
        arith,
        long
            v.seen,
      )))
      ∙ ap (λ (xs : List X). at_places xs v.own) (sym more.1 ∙ ap tell begins.1))
      ∙ index_sum (tell list) v.own

  one_of : (k : ℕ) (list : List Entry) (o : Option Known) →
      IfSome o HasSeenOwn → IfSome (option_map (λ (v : Known). v.seen) o) (λ seen. IsPrefix seen
      list) →
      at_or weigh o ≡ own_sum (one_item_sum (tell list)) o
  one_of k list None placed begins = refl
  one_of k list (Some v) placed begins = in_list v list placed begins

  column : (k : ℕ) (list : List Entry) (rows : List (List Known)) →
      Every (λ ws. IfSome (slice_get ws k) HasSeenOwn) rows → Every (Begins k list) rows →
      sum_by (λ (ws : List Known). at_or weigh (slice_get ws k)) rows
      ≡ sum_by (own_at (one_item_sum (tell list)) k) rows
  column k list [] placed begins = refl
  column k list (ws ∷ rest) placed begins =
      omega (
        arith,
        one_of k list (slice_get ws k) placed.0 begins.0,
        column k list rest placed.1 begins.1,
        sum_by-cons (λ (xs : List Known). at_or weigh (slice_get xs k)) ws rest,
        sum_by-cons (own_at (one_item_sum (tell list)) k) ws rest,
      )

  of_list : (places k : ℕ) (list : List Entry) (rows : List (List Known)) →
      Every (λ ws. IfSome (slice_get ws k) HasSeenOwn) rows → IsListOf places rows k list →
      sum_by (λ (ws : List Known). at_or weigh (slice_get ws k)) rows ≡ sum_by f (tell list)
  of_list places k list rows placed is =
      column k list rows placed is.begins
      ∙ is.once (one_item_sum (tell list))
      ∙ sym (index_sum (tell list) (range_with_len 0 (length list)))
      ∙ ap (λ n. sum_by f (at_places (tell list) (range_with_len 0 n))) (sym (long list))
      ∙ ap (sum_by f) (at_all (tell list))

  of_lists : (places n : ℕ) (lists : List (List Entry)) (rows : List (List Known)) →
      ((k : ℕ) → Every (λ ws. IfSome (slice_get ws k) HasSeenOwn) rows) →
      AllFrom (IsListOf places rows) n lists →
      AllFrom (λ k l. sum_by (λ (ws : List Known). at_or weigh (slice_get ws k)) rows ≡ sum_by f
      (tell l)) n lists
  of_lists places n [] rows placed all = tt
  of_lists places n (l ∷ ls) rows placed all =
      (of_list places n l rows (placed n) all.0, of_lists places (n + 1) ls rows placed all.1)

  -- what all rows have is what all lists have
  pub all_told : (places : ℕ) (lists : List (List Entry)) (rows : List (List Known)) →
      ((k : ℕ) → Every (λ ws. IfSome (slice_get ws k) HasSeenOwn) rows) →
      Every (λ ws. length ws ≡ length lists) rows → AllFrom (IsListOf places rows) 0 lists →
      sum_by (λ (ws : List Known). sum_by (λ (v : Known). sum_by f (at_places (tell v.seen) v.own))
      ws) rows
      ≡ sum_by (λ (l : List Entry). sum_by f (tell l)) lists
  all_told places lists rows placed many all =
      swapped weigh (λ (l : List Entry). sum_by f (tell l)) 0 lists rows
      (every_mapped (λ ws. length ws ≡ length lists) (λ ws. length ws ≡ 0 + length lists) rows
      (λ ws is. omega (arith, is)) many)
      (of_lists places 0 lists rows placed all)
