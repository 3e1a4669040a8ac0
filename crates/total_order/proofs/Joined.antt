-- The lists of all places, joined into one.
use Rattle.std.proofs.Common.{◌≡◌, ◌<◌, ◌≤◌, ℕ, zero, suc, Bool, true, false, List, [], ◌∷◌}
use Rattle.std.proofs.Common.{◌++◌, ◌≢◌, refl, sym, ap, ◌∙◌, arith, nat_lt}
use Rattle.std.proofs.Common.{◌==◌, if◌then◌else◌, append-nil, nat_eq}
use Rattle.std.proofs.lemmas.Bool.Decides.{nat_tests}
use Rattle.std.proofs.lemmas.List.{map-append}
use Rattle.std.proofs.lemmas.List.Elements.{filter-append}
use Rattle.histories.specs.declared.entry.Entry.{Entry}
use Rattle.histories.specs.History.{history, is_of}
use Rattle.histories.specs.Places.{place_for}
use Rattle.total_order.specs.Orders.{EachIs, Pairs, untimed, earlier}
use Rattle.total_order.specs.Steps.{Step}
use Rattle.total_order.specs.TotalOrder.{entries, queue_of}
use Rattle.total_order.specs.Places.{Lists}
use Rattle.total_order.proofs.Lists.{each_map, each_append, pairs_map, pairs_append, each_filter}

-- those of the first places, one place after the other
abbrev pub joined : Lists → ℕ → List (Step × ℕ)
joined lists zero = []
joined lists (suc k) = joined lists k ++ lists k

-- the history of a queue, of steps with their times
abbrev pub history_in : ℕ → List (Step × ℕ) → List Entry
history_in queue xs = history queue (entries (untimed xs))

-- it is that of the one list and then that of the other
pub history_append : (queue : ℕ) (xs ys : List (Step × ℕ)) →
    history_in queue (xs ++ ys) ≡ history_in queue xs ++ history_in queue ys
history_append queue xs ys =
    ap (λ zs. history queue (entries zs)) (map-append (λ x. x.0) xs ys)
    ∙ ap (λ zs. history queue zs) (map-append (λ (s : Step). s.entry) (untimed xs) (untimed ys))
    ∙ filter-append (is_of queue) (entries (untimed xs)) (entries (untimed ys))

-- what is earlier of all is what is earlier at each place
pub earlier_joined : (time : ℕ) (lists : Lists) (n : ℕ) →
    earlier time (joined lists n) ≡ joined (λ k. earlier time (lists k)) n
earlier_joined time lists zero = refl
earlier_joined time lists (suc n) =
    filter-append (λ x. nat_lt x.1 time) (joined lists n) (lists n)
    ∙ ap (λ zs. zs ++ earlier time (lists n)) (earlier_joined time lists n)

-- what holds of each at its place holds of all
pub each_joined : (P : Step × ℕ → Type 0) (lists : Lists) (n : ℕ) →
    ((k : ℕ) → k < n → EachIs P (lists k)) → EachIs P (joined lists n)
each_joined P lists zero h = tt
each_joined P lists (suc n) h = each_append P (joined lists n) (lists n)
    (each_joined P lists n (λ k l. h k (omega arith))) (h n (omega arith))

-- what each two of one place keep, and each two of two places
pub pairs_joined : (R : Step × ℕ → Step × ℕ → Type 0) (lists : Lists) (n : ℕ) →
    ((k : ℕ) → k < n → Pairs R (lists k)) →
    ((k j : ℕ) → k < j → j < n → EachIs (λ x. EachIs (R x) (lists j)) (lists k)) →
    Pairs R (joined lists n)
pairs_joined R lists zero h both = tt
pairs_joined R lists (suc n) h both =
    pairs_append R (joined lists n) (lists n)
    (pairs_joined R lists n (λ k l. h k (omega arith)) (λ k j l m. both k j l (omega arith)))
    (h n (omega arith))
    (each_joined (λ x. EachIs (R x) (lists n)) lists n (λ k l. both k n l (omega arith)))

module _ (places : ℕ) where
  -- each is at its own place
  abbrev pub AreHere : Lists → ℕ → Type 0
  AreHere lists n =
      (k : ℕ) → k < n → EachIs (λ x. place_for x.0.entry.queue places ≡ k) (lists k)

  -- at another place a queue has no history
  pub none_elsewhere : (k queue : ℕ) (xs : List (Step × ℕ)) → place_for queue places ≢ k →
      EachIs (λ x. place_for x.0.entry.queue places ≡ k) xs → history_in queue xs ≡ []
  none_elsewhere k queue [] away h = refl
  none_elsewhere k queue (x ∷ xs) away h =
      by (none_elsewhere k queue xs away h.1) (x.0.entry.queue == queue) refl
    where
      by : history_in queue xs ≡ [] → (b : Bool) → (x.0.entry.queue == queue) ≡ b →
          (if b then x.0.entry ∷ history_in queue xs else history_in queue xs) ≡ []
      by rest false e = rest
      by rest true e =
          let same : x.0.entry.queue ≡ queue = grind (arith, nat_tests) in
          absurd (away (ap (λ q. place_for q places) (sym same) ∙ h.0))

  -- among the first places, a queue's history is that of its place, if this is one of them
  pub history_joined : (lists : Lists) (n queue : ℕ) → AreHere lists n →
      (place_for queue places < n →
      history_in queue (joined lists n) ≡ history_in queue (lists (place_for queue places)))
      × (n ≤ place_for queue places → history_in queue (joined lists n) ≡ [])
  history_joined lists zero queue here = ((λ l. absurd (omega arith)), (λ l. refl))
  history_joined lists (suc n) queue here =
      by (history_joined lists n queue (λ k l. here k (omega arith)))
      (nat_eq (place_for queue places) n) refl
    where
      last : place_for queue places ≢ n →
          history_in queue (joined lists (suc n)) ≡ history_in queue (joined lists n)
      last away = history_append queue (joined lists n) (lists n)
          ∙ ap (λ zs. history_in queue (joined lists n) ++ zs)
          (none_elsewhere n queue (lists n) away (here n (omega arith)))
          ∙ append-nil (history_in queue (joined lists n))

      by : (place_for queue places < n →
          history_in queue (joined lists n) ≡ history_in queue (lists (place_for queue places)))
          × (n ≤ place_for queue places → history_in queue (joined lists n) ≡ []) → (b : Bool) →
          nat_eq (place_for queue places) n ≡ b →
          (place_for queue places < suc n →
          history_in queue (joined lists (suc n))
          ≡ history_in queue (lists (place_for queue places)))
          × (suc n ≤ place_for queue places → history_in queue (joined lists (suc n)) ≡ [])
      by rest true e =
          let at : place_for queue places ≡ n = grind (arith, nat_tests) in (
            (λ l. history_append queue (joined lists n) (lists n)
                ∙ ap (λ zs. zs ++ history_in queue (lists n)) (rest.1 (omega (arith, at)))
                ∙ ap (λ k. history_in queue (lists k)) (sym at)),
            (λ l. absurd (omega (arith, at))),
          )
      by rest false e =
          let away : place_for queue places ≢ n = grind (arith, nat_tests) in (
            (λ l. last away ∙ rest.0 (grind (arith, nat_tests))),
            (λ l. last away ∙ rest.1 (omega arith)),
          )

  -- among all places it is that of its place
  pub history_of_all : (lists : Lists) (queue : ℕ) → place_for queue places < places →
      AreHere lists places →
      history_in queue (joined lists places) ≡ history_in queue (lists (place_for queue places))
  history_of_all lists queue within here = (history_joined lists places queue here).0 within

  -- the same of what is earlier
  pub history_earlier : (time : ℕ) (lists : Lists) (queue : ℕ) →
      place_for queue places < places → AreHere lists places →
      history_in queue (earlier time (joined lists places))
      ≡ history_in queue (earlier time (lists (place_for queue places)))
  history_earlier time lists queue within here =
      ap (λ zs. history_in queue zs) (earlier_joined time lists places)
      ∙ history_of_all (λ k. earlier time (lists k)) queue within
      (λ k l. each_filter (λ x. place_for x.0.entry.queue places ≡ k) (λ x. nat_lt x.1 time)
      (lists k) (here k l))

  -- along a history times don't descend
  pub rise_joined : (lists : Lists) → AreHere lists places →
      ((k : ℕ) → k < places → Pairs (λ x y. x.1 ≤ y.1) (lists k)) →
      Pairs (λ x y. queue_of x.0 ≡ queue_of y.0 → x.1 ≤ y.1) (joined lists places)
  rise_joined lists here rise =
      pairs_joined (λ x y. queue_of x.0 ≡ queue_of y.0 → x.1 ≤ y.1) lists places
      (λ k l. pairs_map (λ x y. x.1 ≤ y.1) (λ x y. queue_of x.0 ≡ queue_of y.0 → x.1 ≤ y.1)
      (lists k) (λ x y le e. le) (rise k l))
      (λ k j l m. each_map (λ x. place_for x.0.entry.queue places ≡ k)
      (λ x. EachIs (λ y. queue_of x.0 ≡ queue_of y.0 → x.1 ≤ y.1) (lists j)) (lists k)
      (λ x at. each_map (λ y. place_for y.0.entry.queue places ≡ j)
      (λ y. queue_of x.0 ≡ queue_of y.0 → x.1 ≤ y.1) (lists j)
      (λ y to e. apart k j x.0 y.0 l at to e) (here j m)) (here k (omega arith)))
    where
      apart : (k j : ℕ) (s t : Step) {P : Type 0} → k < j → place_for (queue_of s) places ≡ k →
          place_for (queue_of t) places ≡ j → queue_of s ≡ queue_of t → P
      apart k j s t l at to e =
          let same : k ≡ j = sym at ∙ ap (λ q. place_for q places) e ∙ to in
          absurd (omega (arith, same))
