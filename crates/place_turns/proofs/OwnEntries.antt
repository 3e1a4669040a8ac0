-- Entries of passes' own, as rows of passes see more: which they were, and what they rest on.
use Rattle.std.proofs.Common.{◌≡◌, ◌<◌, ◌≤◌, ◌+◌, ◌-◌, ℕ, zero, suc, List, [], ◌∷◌, ◌++◌}
use Rattle.std.proofs.Common.{length, refl, sym, ap, ◌∙◌, subst, arith, inl, inr, ◌⊎◌, Some, take}
use Rattle.std.proofs.Common.{append_assoc, length-append}
use Rattle.std.specs.Prelude.{slice_get}
use Rattle.std.specs.List.{range_with_len}
use mathlib.Core.List.{IsPrefix}
use Rattle.mailbox.specs.declared.view.Post.{Post}
use Rattle.queue_core.specs.declared.event.Event.{Event}
use Rattle.queue_core.specs.declared.event.Event.TheVariants.{Arrive, Ask, PortClosed, DeviceDown}
use Rattle.turn_lock.specs.Places.{In, Ascends}
use Rattle.turn_lock.specs.Views.{HasSeenOwn}
use Rattle.histories.specs.declared.entry.Entry.{Entry}
use Rattle.histories.specs.declared.log.Did.{Did}
use Rattle.total_order.specs.Orders.{EachIs}
use Rattle.place_rows.specs.Rows.{TimedKnown}
use Rattle.place_turns.specs.Departures.{SeeOn}
use Rattle.place_turns.specs.Timely.{Holder, HasSeenBefore, RestsOn, AreEarly}
use Rattle.place_turns.specs.Timely.{IsNoClosing}
use Rattle.place_turns.proofs.PassTurns.{some_same}
use Rattle.place_turns.proofs.EarlyLetters.{sent_still, front_still, early_more}

-- ---- lists

module _ {X : Type 0} where
  pub each_append : (P : X → Type 0) (xs ys : List X) → EachIs P xs → EachIs P ys →
      EachIs P (xs ++ ys)
  each_append P [] ys one two = two
  each_append P (x ∷ xs) ys one two = (one.0, each_append P xs ys one.1 two)

  pub each_map : (P Q : X → Type 0) (xs : List X) → ((x : X) → P x → Q x) → EachIs P xs →
      EachIs Q xs
  each_map P Q [] f h = tt
  each_map P Q (x ∷ xs) f h = (f x h.0, each_map P Q xs f h.1)

  pub each_at : (P : X → Type 0) (xs : List X) (i : ℕ) (x : X) → EachIs P xs →
      slice_get xs i ≡ Some x → P x
  each_at P [] i x h at = absurd (cc at)
  each_at P (y ∷ xs) zero x h at = subst P (some_same y x at) h.0
  each_at P (y ∷ xs) (suc i) x h at = each_at P xs i x h.1 at

  pub begins_with : (xs ys zs : List X) → IsPrefix xs ys → IsPrefix ys zs → IsPrefix xs zs
  begins_with xs ys zs p q =
      (p.0 ++ q.0, sym (append_assoc xs p.0 q.0) ∙ ap (λ w. w ++ q.0) p.1 ∙ q.1)

  pub at_front : (xs ys : List X) (i : ℕ) → i < length xs →
      slice_get (xs ++ ys) i ≡ slice_get xs i
  at_front [] ys i few = absurd (omega (arith, few))
  at_front (x ∷ xs) ys zero few = refl
  at_front (x ∷ xs) ys (suc i) few = at_front xs ys i (omega (arith, few))

  pub at_behind : (xs ys : List X) (i : ℕ) → length xs ≤ i →
      slice_get (xs ++ ys) i ≡ slice_get ys (i - length xs)
  at_behind [] ys i many = ap (slice_get ys) (let e : i ≡ i - 0 = omega arith in e)
  at_behind (x ∷ xs) ys zero many = absurd (omega (arith, many))
  at_behind (x ∷ xs) ys (suc i) many =
      at_behind xs ys i (omega (arith, many))
      ∙ ap (slice_get ys) (let e : i - length xs ≡ suc i - suc (length xs) = omega arith in e)

  -- what stands in a beginning of a list
  pub before_in : (xs ys : List X) (i : ℕ) (x : X) → IsPrefix xs ys → i < length xs →
      slice_get ys i ≡ Some x → slice_get xs i ≡ Some x
  before_in xs ys i x p few at =
      sym (at_front xs p.0 i few) ∙ ap (λ (l : List X). slice_get l i) p.1 ∙ at

-- ---- numbers of own entries

pub in_either : (k : ℕ) (xs ys : List ℕ) → In k (xs ++ ys) → In k xs ⊎ In k ys
in_either k [] ys h = inr h
in_either k (x ∷ xs) ys (inl e) = inl (inl e)
in_either k (x ∷ xs) ys (inr h) = elim (in_either k xs ys h) [
  | inl one ↦ inl (inr one)
  | inr two ↦ inr two
]

pub in_range : (k low n : ℕ) → In k (range_with_len low n) → (low ≤ k) × (k < low + n)
in_range k low zero h = absurd h
in_range k low (suc n) (inl e) = (omega (arith, e), omega (arith, e))
in_range k low (suc n) (inr h) =
    let r = in_range k (low + 1) n h in
    let one = r.0 in
    let two = r.1 in
    (omega (arith, one), omega (arith, two))

below : (k low high : ℕ) (xs : List ℕ) → Ascends low high xs → In k xs → k < high
below k low high [] a h = absurd h
below k low high (x ∷ xs) a (inl e) = let b = a.1.0 in omega (arith, e, b)
below k low high (x ∷ xs) a (inr h) = below k (x + 1) high xs a.1.1 h

-- each of them was seen
pub own_seen : (v : TimedKnown) (i : ℕ) → HasSeenOwn v → In i v.own → i < length v.seen
own_seen v i placed h = below i 0 (length v.seen) v.own placed h

-- ---- what was seen goes on

module _ (row news : List TimedKnown) (on : SeeOn row news) where
  pub seen_before_on : (time : ℕ) (Q : List Entry → Type 0) → HasSeenBefore row time Q →
      HasSeenBefore news time Q
  seen_before_on time Q h =
      let then_ = on h.place h.pass h.there in
      record {
        place = h.place;
        pass = then_.after;
        there = then_.at;
        front = h.front;
        begins = begins_with h.front h.pass.seen then_.after.seen h.begins then_.turns;
        early = h.early;
        so = h.so;
      }

  pub rests_on : (h : Holder) (time at : ℕ) (event : Event) → RestsOn row h time at event →
      RestsOn news h time at event
  rests_on h time at (Arrive card bypass room) r = seen_before_on time _ r
  rests_on h time at (Ask port call request) r = r
  rests_on h time at (PortClosed port) r = r
  rests_on h time at (DeviceDown device) r = tt

-- what a request rests on goes on as more is done, and what an arrival does
pub rests_longer : (row : List TimedKnown) (port : _) (dids more : List Did)
    (heard letters : List Post) (time at : ℕ) (event : Event) → IsNoClosing event →
    RestsOn row (record { port = port; dids = dids; heard = heard }) time at event →
    RestsOn row (record { port = port; dids = dids ++ more; heard = heard ++ letters }) time at
    event
rests_longer row port dids more heard letters time at (Arrive card bypass room) no_closing r = r
rests_longer row port dids more heard letters time at (Ask by_ call request) no_closing r =
    let few = r.1 in (
      r.0,
      omega (arith, few, length-append dids more),
      sent_still call at dids more few r.2,
      subst (λ (ds : List Did). AreEarly time ds (heard ++ letters))
          (sym (front_still at dids more few))
          (early_more time time (take at dids) heard letters (omega arith) r.3),
    )
rests_longer row port dids more heard letters time at (PortClosed by_) no_closing r =
    absurd no_closing
rests_longer row port dids more heard letters time at (DeviceDown device) no_closing r = tt
