-- Two lists are compared: each arrival of the one is found and taken out of the other.
use Rattle.std.proofs.Common.{◌≡◌, ◌<◌, ℕ, suc, ◌+◌, List, [], ◌∷◌, length, Bool, true, false}
use Rattle.std.proofs.Common.{refl, sym, ap, ◌∙◌, subst, arith, drop, inl, inr}
use Rattle.std.specs.Prelude.{count_by, ◌&&◌, ◌==◌, ◌↔◌, bytes_eq, slice_index_or}
use Rattle.std.specs.List.{swap_remove}
use Rattle.std.specs.List.Sorted.{IsPermutation}
use Rattle.std.specs.Bool.{beq}
use Rattle.std.specs.Cmp.{booleans_Decides}
use Rattle.std.proofs.lemmas.Bool.{and_parts, eqb-true, eq-eqb, and_from, cases_order}
use Rattle.std.proofs.lemmas.List.{get_or_default, drop_more}
use Rattle.std.proofs.lemmas.Slice.Eq.{bytes_eq-Decides}
use Rattle.std.proofs.lemmas.List.Sorted.{IsPermutation-swap_remove, sum_by-IsPermutation}
use Rattle.packet_entry.specs.declared.packet.Card.{Card}
use Rattle.histories.specs.Journeys.{Arrival}
use Rattle.journey_audit.specs.Unmet.{AreAsMany}
use Rattle.journey_audit.specs.Comparing.{is_same, is_same_card, StandsAt, StandsNowhere}
use Rattle.journey_audit.specs.Comparing.{has_same_place, has_same_marks, has_same_bytes}
use Rattle.journey_audit.proofs.TestCounts.{count_cons, once}

-- ---- one arrival

same_fields : (c d : Card) → c.number ≡ d.number → c.visit ≡ d.visit → c.table ≡ d.table →
    c.mark ≡ d.mark → c.priority ≡ d.priority → c.seconds ≡ d.seconds → c.micros ≡ d.micros →
    c.protocol ≡ d.protocol → c.link ≡ d.link → c.bytes ≡ d.bytes → c ≡ d
same_fields c d n v t m p s i o l b = λ at. record {
  number = n at;
  visit = v at;
  table = t at;
  mark = m at;
  priority = p at;
  seconds = s at;
  micros = i at;
  protocol = o at;
  link = l at;
  bytes = b at;
}

cards_are : (c d : Card) → is_same_card c d ≡ true → c ≡ d
cards_are c d h =
    let places = and_parts (has_same_place c d) (has_same_marks c d && has_same_bytes c d) h in
    let others = and_parts (has_same_marks c d) (has_same_bytes c d) places.1 in
    let numbers = and_parts (c.number == d.number) ((c.visit == d.visit) && (c.table == d.table))
    places.0 in
    let visits = and_parts (c.visit == d.visit) (c.table == d.table) numbers.1 in
    let marks = and_parts (c.mark == d.mark) ((c.priority == d.priority)
    && ((c.seconds == d.seconds) && (c.micros == d.micros))) others.0 in
    let priorities = and_parts (c.priority == d.priority) ((c.seconds == d.seconds)
    && (c.micros == d.micros)) marks.1 in
    let times = and_parts (c.seconds == d.seconds) (c.micros == d.micros) priorities.1 in
    let protocols = and_parts (c.protocol == d.protocol) (bytes_eq c.link d.link
    && bytes_eq c.bytes d.bytes) others.1 in
    let bytes = and_parts (bytes_eq c.link d.link) (bytes_eq c.bytes d.bytes) protocols.1 in
    same_fields c d (eqb-true c.number d.number numbers.0) (eqb-true c.visit d.visit visits.0)
    (eqb-true c.table d.table visits.1) (eqb-true c.mark d.mark marks.0)
    (eqb-true c.priority d.priority priorities.0) (eqb-true c.seconds d.seconds times.0)
    (eqb-true c.micros d.micros times.1) (eqb-true c.protocol d.protocol protocols.0)
    ((bytes_eq-Decides c.link d.link).0 bytes.0) ((bytes_eq-Decides c.bytes d.bytes).0 bytes.1)

-- what is found to be the same is the same
pub arrivals_are : (a b : Arrival) → is_same a b ≡ true → a ≡ b
arrivals_are a b h =
    let queues = and_parts (a.queue == b.queue) (beq a.bypass b.bypass
    && is_same_card a.card b.card) h in
    let others = and_parts (beq a.bypass b.bypass) (is_same_card a.card b.card) queues.1 in
    let queue : a.queue ≡ b.queue = eqb-true a.queue b.queue queues.0 in
    let bypass : a.bypass ≡ b.bypass = (booleans_Decides a.bypass b.bypass).0 others.0 in
    let card : a.card ≡ b.card = cards_are a.card b.card others.1 in
    λ at. record { queue = queue at; card = card at; bypass = bypass at }

-- and each is the same as itself
self_number : (n : ℕ) → (n == n) ≡ true
self_number n = eq-eqb n n refl

self_bytes : (bs : List ℕ) → bytes_eq bs bs ≡ true
self_bytes bs = (bytes_eq-Decides bs bs).1 refl

pub is_itself : (a : Arrival) → is_same a a ≡ true
is_itself a =
    and_from (a.queue == a.queue) (beq a.bypass a.bypass && is_same_card a.card a.card)
    (self_number a.queue)
    (and_from (beq a.bypass a.bypass) (is_same_card a.card a.card)
    ((booleans_Decides a.bypass a.bypass).1 refl) card)
  where
    places : has_same_place a.card a.card ≡ true
    places = and_from _ _ (self_number a.card.number)
        (and_from _ _ (self_number a.card.visit) (self_number a.card.table))

    marks : has_same_marks a.card a.card ≡ true
    marks = and_from _ _ (self_number a.card.mark) (and_from _ _ (self_number a.card.priority)
        (and_from _ _ (self_number a.card.seconds) (self_number a.card.micros)))

    bytes : has_same_bytes a.card a.card ≡ true
    bytes = and_from _ _ (self_number a.card.protocol)
        (and_from _ _ (self_bytes a.card.link) (self_bytes a.card.bytes))

    card : is_same_card a.card a.card ≡ true
    card = and_from _ _ places (and_from _ _ marks bytes)

-- ---- one that is taken out

-- it was one of them
taken_counts : (ys zs : List Arrival) (a b : Arrival) (place : ℕ) → StandsAt ys a place →
    b ≡ slice_index_or ys place b → zs ≡ swap_remove ys place b → (test : Arrival → Bool) →
    count_by test ys ≡ once (test a) + count_by test zs
taken_counts ys zs a b place stands is out test =
    sym (sum_by-IsPermutation (λ (x : Arrival). once (test x)) ys (b ∷ swap_remove ys place b)
    (IsPermutation-swap_remove ys place b stands.0 is))
    ∙ ap (λ (xs : List Arrival). count_by test (b ∷ xs)) (sym out)
    ∙ count_cons test b zs
    ∙ ap (λ (x : Arrival). once (test x) + count_by test zs) same
  where
    same : b ≡ a
    same = arrivals_are b a (subst (λ (x : Arrival). is_same x a ≡ true) (sym is)
        (stands.1 b))

-- the first of the one list, and the same in the other, are both taken out
pub taken_both : (xs rest ys zs : List Arrival) (a b : Arrival) (place : ℕ) → xs ≡ a ∷ rest →
    StandsAt ys a place → b ≡ slice_index_or ys place b → zs ≡ swap_remove ys place b →
    AreAsMany xs ys ↔ AreAsMany rest zs
taken_both xs rest ys zs a b place front stands is out = (
  λ many test. omega (arith, in_first test, many test, in_other test),
  λ many test. omega (arith, in_first test, many test, in_other test),
)
  where
    in_first : (test : Arrival → Bool) → count_by test xs ≡ once (test a) + count_by test rest
    in_first test = ap (count_by test) front ∙ count_cons test a rest

    in_other : (test : Arrival → Bool) → count_by test ys ≡ once (test a) + count_by test zs
    in_other test = taken_counts ys zs a b place stands is out test

-- ---- one that isn't there

none_counts : (ys : List Arrival) (a : Arrival) → StandsNowhere ys a →
    count_by (λ b. is_same b a) ys ≡ 0
none_counts [] a nowhere = refl
none_counts (y ∷ ys) a nowhere =
    let here : once (is_same y a) ≡ 0 = ap once (nowhere 0 y (omega arith)) in
    omega (
      arith,
      count_cons (λ b. is_same b a) y ys,
      here,
      none_counts ys a (λ place other less. nowhere (suc place) other (omega (arith, less))),
    )

pub not_as_many : (xs rest ys : List Arrival) (a : Arrival) → xs ≡ a ∷ rest →
    StandsNowhere ys a → AreAsMany xs ys → ⊥
not_as_many xs rest ys a front nowhere many =
    omega (
      arith,
      ap (count_by (λ b. is_same b a)) front ∙ count_cons (λ b. is_same b a) a rest,
      ap once (is_itself a),
      many (λ b. is_same b a),
      none_counts ys a nowhere,
    )

-- it stands nowhere up to a place
pub nowhere_on : (xs : List Arrival) (a x : Arrival) (place : ℕ) → place < length xs →
    x ≡ slice_index_or xs place x → is_same x a ≡ false →
    ((at : ℕ) (other : Arrival) → at < place → is_same (slice_index_or xs at other) a ≡ false) →
    (at : ℕ) (other : Arrival) → at < place + 1 → is_same (slice_index_or xs at other) a ≡ false
nowhere_on xs a x place within is differs before at other less = elim (cases_order at place) [
  | inl same ↦ subst (λ n. is_same (slice_index_or xs n other) a ≡ false) (sym same)
      (subst (λ y. is_same y a ≡ false) (is ∙ get_or_default xs place x other within) differs)
  | inr apart ↦ elim apart [
    | inl lower ↦ before at other lower
    | inr above ↦ absurd (omega (arith, less, above))
  ]
]

-- ---- what is left of a list

pub left_from : (all items : List Arrival) (at : ℕ) (a : Arrival) → items ≡ all →
    at < length items → a ≡ slice_index_or items at a → drop at all ≡ a ∷ drop (at + 1) all
left_from all items at a same within is =
    subst (λ xs. drop at xs ≡ a ∷ drop (at + 1) xs) same
    (drop_more items at a within ∙ ap (λ b. b ∷ drop (at + 1) items) (sym is))

-- ---- at the end

-- none is asked for that didn't come
pub none_left : (ys : List Arrival) → AreAsMany [] ys ↔ (ys ≡ [])
none_left [] = (λ many. refl, λ none test. refl)
none_left (y ∷ ys) = (
  λ many. absurd (omega (arith, many (λ a. true), count_cons (λ a. true) y ys)),
  λ none. absurd (let wrong : y ∷ ys ≡ [] = none in cc),
)

-- another order is no matter
pub other_order : (xs ys zs : List Arrival) → IsPermutation xs zs →
    AreAsMany zs ys ↔ AreAsMany xs ys
other_order xs ys zs moved = (
  λ many test. sym (sum_by-IsPermutation (λ (a : Arrival). once (test a)) xs zs moved) ∙ many test,
  λ many test. sum_by-IsPermutation (λ (a : Arrival). once (test a)) xs zs moved ∙ many test,
)
