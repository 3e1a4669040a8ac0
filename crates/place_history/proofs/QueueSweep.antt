-- Going over all queues by ascending number, one bound queue after the other.
use Rattle.std.proofs.Common.{◌≡◌, ◌≤◌, ◌<◌, ℕ, suc, zero, ◌+◌, ◌-◌, List, [], ◌∷◌, ◌++◌, Option}
use Rattle.std.proofs.Common.{Some, None, refl, sym, ap, ◌∙◌, subst, arith}
use Rattle.std.proofs.Common.{append_assoc, append-nil, length, length-append}
use Rattle.std.specs.Prelude.{sum_by, flat_map, IsSome}
use Rattle.std.specs.List.{range_with_len}
use Rattle.std.proofs.lemmas.Grind.{flat_map-append}
use Rattle.std.proofs.lemmas.List.Elements.{filter-append}
use Rattle.std.proofs.lemmas.List.Sums.{sum_by-append, sum_by-cons}
use Rattle.std.proofs.lemmas.Bool.{ne_eqb}
use Rattle.queue_core.specs.State.{Bound}
use Rattle.histories.specs.Numbers.{queue_count}
use Rattle.histories.specs.declared.entry.Entry.{Entry}
use Rattle.histories.specs.History.{replay, history, is_of}
use Rattle.histories.specs.States.{state_of, every_number, told, taken_in, taken_by}
use Rattle.histories.specs.States.{one_if_bound, bound_in_all}
use Rattle.histories.specs.Happenings.{down_of}
use Rattle.histories.specs.Sweeps.{OnlyAt, AsksAtOne, asked_at}

-- ---- numbers from one on

pub range_on : (a n m : ℕ) →
    range_with_len a (n + m) ≡ range_with_len a n ++ range_with_len (a + n) m
range_on a zero m =
    let here : a + 0 ≡ a = omega arith in
    let all : 0 + m ≡ m = omega arith in
    rw (here, all) refl
range_on a (suc n) m =
    let more : suc n + m ≡ suc (n + m) = omega arith in
    let next : a + suc n ≡ a + 1 + n = omega arith in
    rw (more, next) (ap (λ xs. a ∷ xs) (range_on (a + 1) n m))

flat_none : {X : Type 0} (f : ℕ → List X) (a n : ℕ) →
    ((q : ℕ) → a ≤ q → q < a + n → f q ≡ []) → flat_map f (range_with_len a n) ≡ []
flat_none f a zero none = refl
flat_none f a (suc n) none =
    rw (none a (omega arith) (omega arith))
    (flat_none f (a + 1) n (λ q from below. none q (omega (arith, from)) (omega (arith, below))))

-- over a gap nothing comes
pub flat_to : {X : Type 0} (f : ℕ → List X) (from n : ℕ) → from ≤ n →
    ((q : ℕ) → from ≤ q → q < n → f q ≡ []) →
    flat_map f (range_with_len 0 n) ≡ flat_map f (range_with_len 0 from)
flat_to f from n up none =
    let split : from + (n - from) ≡ n = omega (arith, up) in
    let gap : flat_map f (range_with_len (0 + from) (n - from)) ≡ [] =
    flat_none f (0 + from) (n - from)
    (λ q low below. none q (omega (arith, low)) (omega (arith, below, up))) in
    subst (λ m. flat_map f (range_with_len 0 m) ≡ flat_map f (range_with_len 0 from)) split
    (ap (flat_map f) (range_on 0 from (n - from))
    ∙ flat_map-append f (range_with_len 0 from) (range_with_len (0 + from) (n - from))
    ∙ ap (λ xs. flat_map f (range_with_len 0 from) ++ xs) gap
    ∙ append-nil (flat_map f (range_with_len 0 from)))

-- and then what one number brings
pub flat_next : {X : Type 0} (f : ℕ → List X) (n : ℕ) →
    flat_map f (range_with_len 0 (n + 1)) ≡ flat_map f (range_with_len 0 n) ++ f n
flat_next f n =
    let here : 0 + n ≡ n = omega arith in
    ap (flat_map f) (range_on 0 n 1)
    ∙ flat_map-append f (range_with_len 0 n) (range_with_len (0 + n) 1)
    ∙ ap (λ xs. flat_map f (range_with_len 0 n) ++ xs)
    (append-nil (f (0 + n)) ∙ ap f here)

-- ---- entries of one queue after the other

pub record Sweeps (at : ℕ → List Entry) (before es : List Entry) (from taken : ℕ) : Type 0 where
  pub within : from ≤ queue_count
  pub swept : es ≡ before ++ flat_map at (range_with_len 0 from)
  pub rest : (q : ℕ) → from ≤ q → history q es ≡ history q before
  pub count : taken ≡ told (taken_in (flat_map at (range_with_len 0 from)))

-- the next queue's entries are appended
pub sweeps_on : (at : ℕ → List Entry) (before es new : List Entry) (from n taken more : ℕ) →
    Sweeps at before es from taken → from ≤ n → n < queue_count →
    ((q : ℕ) → from ≤ q → q < n → at q ≡ []) → OnlyAt n (at n) → new ≡ es ++ at n →
    more ≡ told (taken + taken_in (at n)) →
    Sweeps at before new (n + 1) more
sweeps_on at before es new from n taken more is up below gap only appended count =
    let all : flat_map at (range_with_len 0 (n + 1))
    ≡ flat_map at (range_with_len 0 from) ++ at n =
    flat_next at n ∙ ap (λ xs. xs ++ at n) (flat_to at from n up gap) in
    record {
      within = omega (arith, below);
      swept = appended ∙ ap (λ xs. xs ++ at n) is.swept
          ∙ append_assoc before (flat_map at (range_with_len 0 from)) (at n)
          ∙ ap (λ xs. before ++ xs) (sym all);
      rest = λ q later. ap (history q) appended ∙ filter-append (is_of q) es (at n)
          ∙ ap (λ xs. history q es ++ xs) (only q (ne_eqb n q (λ same. omega (arith, same, later))))
          ∙ append-nil (history q es) ∙ is.rest q (omega (arith, up, later));
      count = omega (
        arith,
        count,
        is.count,
        ap taken_in all,
        sum_by-append (λ (e : Entry). taken_by e.reply) (flat_map at (range_with_len 0 from))
            (at n),
      );
    }

-- where nothing more comes, all queues were gone over
pub sweeps_all : (at : ℕ → List Entry) (before es : List Entry) (from taken : ℕ) →
    Sweeps at before es from taken →
    ((q : ℕ) → from ≤ q → q < queue_count → at q ≡ []) →
    (es ≡ before ++ flat_map at every_number) × (taken ≡ told (taken_in (flat_map at every_number)))
unfolding every_number
sweeps_all at before es from taken is none =
    let all : flat_map at (range_with_len 0 queue_count) ≡ flat_map at (range_with_len 0 from) =
    flat_to at from queue_count is.within none in (
      is.swept ∙ ap (λ xs. before ++ xs) (sym all),
      is.count ∙ ap (λ xs. told (taken_in xs)) (sym all),
    )

-- ---- entries that each queue's state asks for

-- a queue that wasn't reached is as it was
same_state : (at : ℕ → List Entry) (before es : List Entry) (from taken q : ℕ) →
    Sweeps at before es from taken → from ≤ q → state_of before q ≡ state_of es q
same_state at before es from taken q is later = ap replay (sym (is.rest q later))

absent_asks : (one : ℕ → Option Bound → List Entry) (before es : List Entry)
    (from taken q : ℕ) → AsksAtOne one → Sweeps (asked_at one before) before es from taken →
    from ≤ q → state_of es q ≡ None → asked_at one before q ≡ []
absent_asks one before es from taken q asks is later none =
    ap (one q) (same_state (asked_at one before) before es from taken q is later ∙ none)
    ∙ asks.absent q

pub next_swept : (one : ℕ → Option Bound → List Entry) (before es new : List Entry)
    (from n taken more : ℕ) → AsksAtOne one → Sweeps (asked_at one before) before es from taken →
    from ≤ n → n < queue_count → ((q : ℕ) → from ≤ q → q < n → state_of es q ≡ None) →
    new ≡ es ++ one n (state_of es n) → more ≡ told (taken + taken_in (one n (state_of es n))) →
    Sweeps (asked_at one before) before new (n + 1) more
next_swept one before es new from n taken more asks is up below gap appended count =
    let same : one n (state_of before n) ≡ one n (state_of es n) =
    ap (one n) (same_state (asked_at one before) before es from taken n is up) in
    sweeps_on (asked_at one before) before es new from n taken more is up below
    (λ q low under. absent_asks one before es from taken q asks is low (gap q low under))
    (asks.only n (state_of before n))
    (appended ∙ ap (λ xs. es ++ xs) (sym same))
    (count ∙ ap (λ xs. told (taken + taken_in xs)) (sym same))

pub all_swept : (one : ℕ → Option Bound → List Entry) (before es : List Entry)
    (from taken : ℕ) → AsksAtOne one → Sweeps (asked_at one before) before es from taken →
    ((q : ℕ) → from ≤ q → q < queue_count → state_of es q ≡ None) →
    (es ≡ before ++ flat_map (asked_at one before) every_number)
    × (taken ≡ told (taken_in (flat_map (asked_at one before) every_number)))
all_swept one before es from taken asks is none =
    sweeps_all (asked_at one before) before es from taken is
    (λ q low below. absent_asks one before es from taken q asks is low (none q low below))

-- ---- how many entries

flat_grows : {X : Type 0} (f : ℕ → List X) (from n : ℕ) → from ≤ n →
    length (flat_map f (range_with_len 0 from)) ≤ length (flat_map f (range_with_len 0 n))
flat_grows f from n up =
    let split : from + (n - from) ≡ n = omega (arith, up) in
    subst (λ m. length (flat_map f (range_with_len 0 from))
    ≤ length (flat_map f (range_with_len 0 m))) split
    (omega (
      arith,
      ap length (ap (flat_map f) (range_on 0 from (n - from))
          ∙ flat_map-append f (range_with_len 0 from) (range_with_len (0 + from) (n - from))),
      length-append (flat_map f (range_with_len 0 from))
          (flat_map f (range_with_len (0 + from) (n - from))),
    ))

-- one more comes from a number that wasn't reached
pub one_to_come : {X : Type 0} (f : ℕ → List X) (from n : ℕ) → from ≤ n → n < queue_count →
    length (flat_map f (range_with_len 0 from)) + length (f n)
    ≤ length (flat_map f every_number)
unfolding every_number
one_to_come f from n up below = below_all queue_count below
  where
    below_all : (N : ℕ) → n < N → length (flat_map f (range_with_len 0 from)) + length (f n)
        ≤ length (flat_map f (range_with_len 0 N))
    below_all N under = omega (
      arith,
      flat_grows f from n up,
      flat_grows f (n + 1) N (omega (arith, under)),
      ap length (flat_next f n),
      length-append (flat_map f (range_with_len 0 n)) (f n),
    )

pub none_to_come : {X : Type 0} (f : ℕ → List X) (from : ℕ) → from ≤ queue_count →
    length (flat_map f (range_with_len 0 from)) ≤ length (flat_map f every_number)
unfolding every_number
none_to_come f from within = flat_grows f from queue_count within

-- a device goes down once at each bound queue
down_each : (device : ℕ) (es : List Entry) (qs : List ℕ) →
    length (flat_map (asked_at (down_of device) es) qs)
    ≡ sum_by (λ q. one_if_bound (state_of es q)) qs
down_each device es [] = refl
down_each device es (q ∷ qs) = omega (
  arith,
  length-append (asked_at (down_of device) es q) (flat_map (asked_at (down_of device) es) qs),
  one (state_of es q),
  sum_by-cons (λ q. one_if_bound (state_of es q)) q qs,
  down_each device es qs,
)
  where
    one : (s : Option Bound) → length (down_of device q s) ≡ one_if_bound s
    one None = refl
    one (Some b) = refl

pub down_count : (device : ℕ) (es : List Entry) →
    length (flat_map (asked_at (down_of device) es) every_number) ≡ bound_in_all es
down_count device es = down_each device es every_number

pub down_length : (device queue : ℕ) (s : Option Bound) → IsSome s →
    length (down_of device queue s) ≡ 1
down_length device queue (Some b) is = refl
down_length device queue None is = absurd (cc)

-- so there is room for the next one,
pub room_to_go : (device : ℕ) (before es : List Entry) (from n taken len all room : ℕ) →
    Sweeps (asked_at (down_of device) before) before es from taken → from ≤ n →
    n < queue_count → IsSome (state_of es n) → len ≡ bound_in_all before → len + len ≤ all →
    room + length es ≡ all + length before → 0 < room
room_to_go device before es from n taken len all room is up below bound count enough kept =
    let at = asked_at (down_of device) before in
    let here : IsSome (state_of before n) =
    subst IsSome (sym (same_state at before es from taken n is up)) bound in
    omega (
      arith,
      one_to_come at from n up below,
      down_length device n (state_of before n) here,
      down_count device before,
      count,
      enough,
      kept,
      ap length is.swept,
      length-append before (flat_map at (range_with_len 0 from)),
    )

-- and at the end for one entry of each bound queue
pub room_at_end : (device : ℕ) (before es : List Entry) (from taken len all room : ℕ) →
    Sweeps (asked_at (down_of device) before) before es from taken →
    len ≡ bound_in_all before → len + len ≤ all →
    room + length es ≡ all + length before → len ≤ room
room_at_end device before es from taken len all room is count enough kept =
    let at = asked_at (down_of device) before in
    omega (
      arith,
      none_to_come at from is.within,
      down_count device before,
      count,
      enough,
      kept,
      ap length is.swept,
      length-append before (flat_map at (range_with_len 0 from)),
    )

-- where nothing more comes, that is all
pub all_over : {X : Type 0} (f : ℕ → List X) (from : ℕ) → from ≤ queue_count →
    ((q : ℕ) → from ≤ q → q < queue_count → f q ≡ []) →
    flat_map f (range_with_len 0 from) ≡ flat_map f every_number
unfolding every_number
all_over f from within none = sym (flat_to f from queue_count within none)
