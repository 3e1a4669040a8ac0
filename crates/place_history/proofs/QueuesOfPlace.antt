-- Which queues a place's entries are of.
use Rattle.std.proofs.Common.{◌≡◌, ℕ, List, [], ◌∷◌, ◌++◌, Option, None, Some, Bool, true, false}
use Rattle.std.proofs.Common.{refl, subst, inl, inr, cond}
use Rattle.std.specs.Prelude.{flat_map, All, ◌==◌, IfOk, IfSome, OnErr}
use Rattle.std.specs.declared.result.Result.{Result}
use Rattle.std.specs.declared.result.Result.TheVariants.{Ok, Err}
use Rattle.std.specs.List.{AllByRecursion}
use Rattle.std.proofs.lemmas.Bool.{cases_Bool, eqb-true}
use Rattle.std.proofs.lemmas.List.Elements.{All-append, All-nil, All-from_recursion}
use Rattle.std.proofs.lemmas.List.Elements.{recursion_from_All}
use Rattle.queue_core.specs.declared.offers.NoRoom.{NoRoom}
use Rattle.queue_core.specs.declared.offers.Begun.{Begun}
use Rattle.queue_core.specs.declared.offers.Begun.TheVariants as begun
use Rattle.queue_core.specs.State.{Bound}
use Rattle.queue_core.specs.declared.event.Event.TheVariants.{PortClosed, DeviceDown}
use Rattle.histories.specs.declared.entry.Entry.{Entry}
use Rattle.place_history.specs.declared.place.held.Held.{Held}
use Rattle.place_history.specs.declared.place.held.Offer.{Offer}
use Rattle.place_history.specs.PlaceInvariant.{IsBegun}
use Rattle.histories.specs.History.{is_of}
use Rattle.histories.specs.States.{state_of, entry_in, every_number}
use Rattle.histories.specs.Happenings.{closing_of, down_of, closings, downs}
use Rattle.histories.specs.Sweeps.{asked_at}

abbrev pub AllAt : (ℕ → Type 0) → List Entry → Type 0
AllAt P es = All (λ (e : Entry). P e.queue) es

-- a queue that is bound has an entry
pub bound_was : (P : ℕ → Type 0) (es : List Entry) (q : ℕ) (b : Bound) → AllAt P es →
    state_of es q ≡ Some b → P q
bound_was P es q b all state =
    within es (recursion_from_All (λ (e : Entry). P e.queue) es all) state
  where
    within : (es : List Entry) → AllByRecursion (λ (e : Entry). P e.queue) es →
        state_of es q ≡ Some b → P q
    within [] all state = absurd (cc)
    within (e ∷ es) all state = elim (cases_Bool (is_of q e)) [
      | inl own ↦ subst P (eqb-true e.queue q own) all.0
      | inr other ↦ within es all.1 (rw other at state)
    ]

one_at : (P : ℕ → Type 0) (e : Entry) → P e.queue → AllAt P (e ∷ [])
one_at P e is = All-from_recursion (λ (d : Entry). P d.queue) (e ∷ []) (is, tt)

-- one entry more
pub at_one : (P : ℕ → Type 0) (es : List Entry) (e : Entry) → AllAt P es → P e.queue →
    AllAt P (es ++ e ∷ [])
at_one P es e all is = All-append (λ (d : Entry). P d.queue) es (e ∷ []) all (one_at P e is)

-- what the bound queues ask for is of queues that are bound
asked_where : (P : ℕ → Type 0) (one : ℕ → Option Bound → List Entry) (es : List Entry)
    (qs : List ℕ) → ((q : ℕ) → AllAt P (asked_at one es q)) →
    AllAt P (flat_map (asked_at one es) qs)
asked_where P one es [] each = All-nil (λ (e : Entry). P e.queue)
asked_where P one es (q ∷ qs) each =
    All-append (λ (e : Entry). P e.queue) (asked_at one es q) (flat_map (asked_at one es) qs)
    (each q) (asked_where P one es qs each)

closing_at : (P : ℕ → Type 0) (port q : ℕ) (s : Option Bound) →
    ((b : Bound) → s ≡ Some b → P q) → AllAt P (closing_of port q s)
closing_at P port q None is = All-nil (λ (e : Entry). P e.queue)
closing_at P port q (Some b) is = either (b.port == port)
    (one_at P (entry_in q (Some b) (PortClosed port)) (is b refl))
  where
    either : (c : Bool) → AllAt P (entry_in q (Some b) (PortClosed port) ∷ []) →
        AllAt P (cond c (entry_in q (Some b) (PortClosed port) ∷ []) [])
    either true all = all
    either false all = All-nil (λ (e : Entry). P e.queue)

down_at : (P : ℕ → Type 0) (device q : ℕ) (s : Option Bound) →
    ((b : Bound) → s ≡ Some b → P q) → AllAt P (down_of device q s)
down_at P device q None is = All-nil (λ (e : Entry). P e.queue)
down_at P device q (Some b) is = one_at P (entry_in q (Some b) (DeviceDown device)) (is b refl)

pub at_closings : (P : ℕ → Type 0) (port : ℕ) (es : List Entry) → AllAt P es →
    AllAt P (es ++ closings port es)
at_closings P port es all =
    All-append (λ (e : Entry). P e.queue) es (closings port es) all
    (asked_where P (closing_of port) es every_number
    (λ q. closing_at P port q (state_of es q) (λ b state. bound_was P es q b all state)))

pub at_downs : (P : ℕ → Type 0) (device : ℕ) (es : List Entry) → AllAt P es →
    AllAt P (es ++ downs device es)
at_downs P device es all =
    All-append (λ (e : Entry). P e.queue) es (downs device es) all
    (asked_where P (down_of device) es every_number
    (λ q. down_at P device q (state_of es q) (λ b state. bound_was P es q b all state)))

-- an arrival that was begun
pub begun_here : (P : ℕ → Type 0) (r : Result Begun NoRoom) (o : Offer) (old new : Held) →
    IfOk r (λ begun. IsBegun begun o old new) →
    OnErr r (new.entries.items ≡ old.entries.items) → OnErr r (new.offer ≡ None) →
    AllAt P old.entries.items → P o.queue →
    AllAt P new.entries.items × IfSome new.offer (λ (p : Offer). P p.queue)
begun_here P (Ok (begun.Offered port letter)) o old new is same none all here =
    (rw is.0 all, rw is.1 here)
begun_here P (Ok (begun.Back outcome back)) o old new is same none all here =
    (rw is.0 (at_one P old.entries.items _ all here), rw is.1 tt)
begun_here P (Err back) o old new is same none all here = (rw same all, rw none tt)
