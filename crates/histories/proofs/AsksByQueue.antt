-- What ports and devices ask for is of one queue each, and all queues are gone over by number.
use Rattle.std.proofs.Common.{◌≡◌, ℕ, suc, zero, ◌+◌, List, [], ◌∷◌, ◌++◌, Option, Some, None}
use Rattle.std.proofs.Common.{Bool, true, false, refl, ap, ◌∙◌, arith, append-nil, cond}
use Rattle.std.specs.Prelude.{flat_map, ◌==◌}
use Rattle.std.specs.List.{range_with_len}
use Rattle.std.proofs.lemmas.Grind.{flat_map-append}
use Rattle.queue_core.specs.State.{Bound}
use Rattle.queue_core.specs.declared.event.Event.{Event}
use Rattle.queue_core.specs.declared.event.Event.TheVariants.{PortClosed, DeviceDown}
use Rattle.histories.specs.declared.entry.Entry.{Entry}
use Rattle.histories.specs.History.{history}
use Rattle.histories.specs.States.{entry_in}
use Rattle.histories.specs.Happenings.{closing_of, down_of}
use Rattle.histories.specs.Sweeps.{OnlyAt, AsksAtOne}

-- ---- numbers from one on

pub range_on : (a n m : ℕ) →
    range_with_len a (n + m) ≡ range_with_len a n ++ range_with_len (a + n) m
range_on a zero m =
    let here : a + 0 ≡ a = omega arith in
    let all : 0 + m ≡ m = omega arith in
    rw (here, all) refl
range_on a (suc n) m =
    let more : suc n + m ≡ suc (n + m) = omega arith in
    let next : a + suc n ≡ a + 1 + n = omega arith in
    rw (more, next) (ap (λ xs. a ∷ xs) (range_on (a + 1) n m))

-- what one number more brings
pub flat_next : {X : Type 0} (f : ℕ → List X) (n : ℕ) →
    flat_map f (range_with_len 0 (n + 1)) ≡ flat_map f (range_with_len 0 n) ++ f n
flat_next f n =
    let here : 0 + n ≡ n = omega arith in
    ap (flat_map f) (range_on 0 n 1)
    ∙ flat_map-append f (range_with_len 0 n) (range_with_len (0 + n) 1)
    ∙ ap (λ xs. flat_map f (range_with_len 0 n) ++ xs)
    (append-nil (f (0 + n)) ∙ ap f here)

-- ---- what each queue asks for

-- one entry is of its queue alone
one_only : (n q : ℕ) (s : Option Bound) (event : Event) → (n == q) ≡ false →
    history q (entry_in n s event ∷ []) ≡ []
one_only n q s event other = rw other refl

pub closing_asks : (port : ℕ) → AsksAtOne (closing_of port)
closing_asks port = record {
  absent = λ q. refl;
  only = only;
}
  where
    either : (b : Bool) (xs : List Entry) (q : ℕ) → history q xs ≡ [] →
        history q (cond b xs []) ≡ []
    either true xs q none = none
    either false xs q none = refl

    only : (n : ℕ) (s : Option Bound) → OnlyAt n (closing_of port n s)
    only n None = λ q other. refl
    only n (Some b) = λ q other. either (b.port == port)
        (entry_in n (Some b) (PortClosed port) ∷ []) q
        (one_only n q (Some b) (PortClosed port) other)

pub down_asks : (device : ℕ) → AsksAtOne (down_of device)
down_asks device = record {
  absent = λ q. refl;
  only = only;
}
  where
    only : (n : ℕ) (s : Option Bound) → OnlyAt n (down_of device n s)
    only n None = λ q other. refl
    only n (Some b) = λ q other. one_only n q (Some b) (DeviceDown device) other
