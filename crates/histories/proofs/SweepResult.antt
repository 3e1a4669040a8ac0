-- What is left once all queues were gone over.
use Rattle.std.proofs.Common.{◌≡◌, ◌≢◌, ◌≤◌, ◌<◌, ◌⊎◌, ℕ, suc, zero, ◌+◌, ◌-◌, List, [], ◌∷◌, ◌++◌}
use Rattle.std.proofs.Common.{Option, Some, None, true, false, refl, sym, ap, ◌∙◌, subst, arith}
use Rattle.std.proofs.Common.{inl, inr, append-nil}
use Rattle.std.specs.Prelude.{flat_map, ◌==◌, ◌||◌, option_map}
use Rattle.std.specs.List.{range_with_len}
use Rattle.std.proofs.lemmas.Bool.{cases_Bool, ne_eqb, eqb-false, eq-eqb}
use Rattle.std.proofs.lemmas.Grind.{flat_map-append}
use Rattle.std.proofs.lemmas.List.Elements.{filter-append}
use Rattle.nfqa_msgs.specs.Numbers.{input_device, output_device}
use Rattle.queue_core.specs.declared.event.Event.TheVariants.{PortClosed, DeviceDown}
use Rattle.queue_core.specs.State.{Bound}
use Rattle.histories.specs.Numbers.{queue_count}
use Rattle.histories.specs.declared.entry.Entry.{Entry}
use Rattle.histories.specs.History.{replay, history, is_of}
use Rattle.histories.specs.States.{state_of, every_number, entry_in, waiting_at}
use Rattle.histories.specs.Happenings.{closing_of, closings, down_of, downs}
use Rattle.histories.proofs.LegalHistories.{state_on}
use Rattle.histories.specs.Sweeps.{OnlyAt, asked_at}
use Rattle.histories.proofs.AsksByQueue.{range_on, flat_next, closing_asks, down_asks}

-- other numbers bring nothing of a queue
none_of : (at : ℕ → List Entry) → ((n : ℕ) → OnlyAt n (at n)) → (q a n : ℕ) →
    (q < a) ⊎ (a + n ≤ q) → history q (flat_map at (range_with_len a n)) ≡ []
none_of at only q a zero out = refl
none_of at only q a (suc n) out =
    filter-append (is_of q) (at a) (flat_map at (range_with_len (a + 1) n))
    ∙ ap (λ xs. xs ++ history q (flat_map at (range_with_len (a + 1) n)))
    (only a q (apart out))
    ∙ none_of at only q (a + 1) n (further out)
  where
    apart : (q < a) ⊎ (a + suc n ≤ q) → (a == q) ≡ false
    apart (inl below) = ne_eqb a q (λ same. omega (arith, same, below))
    apart (inr above) = ne_eqb a q (λ same. omega (arith, same, above))

    further : (q < a) ⊎ (a + suc n ≤ q) → (q < a + 1) ⊎ (a + 1 + n ≤ q)
    further (inl below) = inl (omega (arith, below))
    further (inr above) = inr (omega (arith, above))

-- so of all numbers one brings a queue's entries
pub one_brings : (at : ℕ → List Entry) → ((n : ℕ) → OnlyAt n (at n)) →
    ((n : ℕ) → history n (at n) ≡ at n) → (q : ℕ) → q < queue_count →
    history q (flat_map at every_number) ≡ at q
unfolding every_number
one_brings at only own q below = among queue_count below
  where
    among : (N : ℕ) → q < N → history q (flat_map at (range_with_len 0 N)) ≡ at q
    among N under =
        let split : q + 1 + (N - (q + 1)) ≡ N = omega (arith, under) in
        subst (λ m. history q (flat_map at (range_with_len 0 m)) ≡ at q) split
        (ap (λ xs. history q (flat_map at xs)) (range_on 0 (q + 1) (N - (q + 1)))
        ∙ ap (history q) (flat_map-append at (range_with_len 0 (q + 1))
        (range_with_len (0 + (q + 1)) (N - (q + 1))))
        ∙ filter-append (is_of q) (flat_map at (range_with_len 0 (q + 1)))
        (flat_map at (range_with_len (0 + (q + 1)) (N - (q + 1))))
        ∙ ap (λ xs. history q (flat_map at (range_with_len 0 (q + 1))) ++ xs)
        (none_of at only q (0 + (q + 1)) (N - (q + 1)) (inl (omega arith)))
        ∙ append-nil (history q (flat_map at (range_with_len 0 (q + 1))))
        ∙ ap (history q) (flat_next at q)
        ∙ filter-append (is_of q) (flat_map at (range_with_len 0 q)) (at q)
        ∙ ap (λ xs. xs ++ history q (at q)) (none_of at only q 0 q (inr (omega arith)))
        ∙ own q)

own_one : (n : ℕ) (e : Entry) → e.queue ≡ n → history n (e ∷ []) ≡ e ∷ []
own_one n e is = rw (eq-eqb e.queue n is) refl

-- ---- a closed port

closing_own : (port n : ℕ) (s : Option Bound) →
    history n (closing_of port n s) ≡ closing_of port n s
closing_own port n None = refl
closing_own port n (Some b) = elim (cases_Bool (b.port == port)) [
  | inl bound ↦ rw bound (own_one n (entry_in n (Some b) (PortClosed port)) refl)
  | inr other ↦ rw other refl
]

pub closed_one : (port queue : ℕ) (es : List Entry) → queue < queue_count →
    history queue (closings port es) ≡ closing_of port queue (state_of es queue)
closed_one port queue es below =
    one_brings (asked_at (closing_of port) es)
    (λ n. (closing_asks port).only n (state_of es n))
    (λ n. closing_own port n (state_of es n)) queue below

closed_state : (port queue : ℕ) (h : List Entry) (s : Option Bound) → replay h ≡ s →
    option_map (λ (b : Bound). b.port) (replay (h ++ closing_of port queue s)) ≢ Some port
closed_state port queue h None is same =
    let none : option_map (λ (b : Bound). b.port) (replay (h ++ [])) ≡ None =
    rw (append-nil h, is) refl in
    let wrong : None ≡ Some port = sym none ∙ same in cc
closed_state port queue h (Some b) is same = elim (cases_Bool (b.port == port)) [
  | inl bound ↦ (let none : option_map (λ (b : Bound). b.port)
      (replay (h ++ closing_of port queue (Some b))) ≡ None =
      rw (bound, state_on h (entry_in queue (Some b) (PortClosed port)), is) refl in
      let wrong : None ≡ Some port = sym none ∙ same in cc)
  | inr other ↦ (let still : option_map (λ (b : Bound). b.port)
      (replay (h ++ closing_of port queue (Some b))) ≡ Some b.port =
      rw (other, append-nil h, is) refl in
      let ports : Some b.port ≡ Some port = sym still ∙ same in
      eqb-false b.port port other (cc))
]

pub closed_none : (port queue : ℕ) (es : List Entry) → queue < queue_count →
    option_map (λ (b : Bound). b.port) (state_of (es ++ closings port es) queue) ≢ Some port
closed_none port queue es below =
    rw (filter-append (is_of queue) es (closings port es), closed_one port queue es below)
    (closed_state port queue (history queue es) (state_of es queue) refl)

-- ---- a device that goes down

down_own : (device n : ℕ) (s : Option Bound) →
    history n (down_of device n s) ≡ down_of device n s
down_own device n None = refl
down_own device n (Some b) = own_one n (entry_in n (Some b) (DeviceDown device)) refl

pub down_one : (device queue : ℕ) (es : List Entry) → queue < queue_count →
    history queue (downs device es) ≡ down_of device queue (state_of es queue)
down_one device queue es below =
    one_brings (asked_at (down_of device) es)
    (λ n. (down_asks device).only n (state_of es n))
    (λ n. down_own device n (state_of es n)) queue below

flushes : (device : ℕ) → (device ≡ input_device) ⊎ (device ≡ output_device) →
    (device == input_device) || (device == output_device) ≡ true
flushes device (inl is) = rw is refl
flushes device (inr is) = rw is refl

down_state : (device queue : ℕ) (h : List Entry) (s : Option Bound) → replay h ≡ s →
    (device ≡ input_device) ⊎ (device ≡ output_device) →
    waiting_at (replay (h ++ down_of device queue s)) ≡ 0
down_state device queue h None is way = rw (append-nil h, is) refl
down_state device queue h (Some b) is way =
    rw (state_on h (entry_in queue (Some b) (DeviceDown device)), is, flushes device way) refl

pub down_none : (device queue : ℕ) (es : List Entry) → queue < queue_count →
    (device ≡ input_device) ⊎ (device ≡ output_device) →
    waiting_at (state_of (es ++ downs device es) queue) ≡ 0
down_none device queue es below way =
    rw (filter-append (is_of queue) es (downs device es), down_one device queue es below)
    (down_state device queue (history queue es) (state_of es queue) refl way)
