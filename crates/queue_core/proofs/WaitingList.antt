-- What the list of what waits keeps.
use Rattle.std.proofs.Common.{◌≡◌, ◌≤◌, ◌<◌, ℕ, zero, suc, List, [], ◌∷◌, length}
use Rattle.std.proofs.Common.{drop, length-drop, Some, None, false, sym}
use Rattle.std.proofs.Common.{subst, ap, ◌∙◌}
use Rattle.std.proofs.Common.{arith, inl, inr}
use Rattle.std.proofs.lemmas.Bool.{cases_Bool, leb-false, or_parts}
use Rattle.std.proofs.lemmas.List.{length_push, map_push}
use Rattle.std.proofs.lemmas.Map.Keys.{IsDistinct-push}
use Rattle.std.proofs.lemmas.Map.Entries.{length-keys_of}
use Rattle.std.specs.Cmp.{nat_eq_equiv}
use Rattle.std.specs.Map.{remove_entry, keys_of}
use Rattle.std.specs.List.{IsDistinct, AllByRecursion}
use Rattle.std.specs.Prelude.{nat_eq, ◌==◌}
use Rattle.packet_entry.specs.declared.packet.Card.{Card}
use Rattle.queue_core.specs.Numbers.{id_count}
use Rattle.queue_core.specs.Ids.{is_id, is_among}
use Rattle.queue_core.specs.State.{Bound}
use Rattle.queue_core.specs.Step.{taken, without, without_oldest, turns_away, next_id, is_full}
use Rattle.queue_core.specs.WithOffer.{WithOffer, IsQueue, IsMode}
use Rattle.nfqa_msgs.specs.Numbers.{longest_range, copy_none}
use Rattle.queue_core.proofs.FreeIds.{fresh_is_free}

-- keys that differ stay so when one leaves
apart_from : (id k : ℕ) (es : List (ℕ × Card)) →
    AllByRecursion (λ y. nat_eq k y ≡ false) (keys_of es) →
    AllByRecursion (λ y. nat_eq k y ≡ false) (keys_of (remove_entry (is_id id) es))
apart_from id k [] h = tt
apart_from id k (e ∷ es) h = elim (cases_Bool (is_id id e.0)) [
  | inl same ↦ rw same h.1
  | inr other ↦ rw other (h.0, apart_from id k es h.1)
]

pub apart_without : (id : ℕ) (es : List (ℕ × Card)) → IsDistinct nat_eq (keys_of es) →
    IsDistinct nat_eq (keys_of (remove_entry (is_id id) es))
unfolding IsDistinct
apart_without id [] h = tt
apart_without id (e ∷ es) h = elim (cases_Bool (is_id id e.0)) [
  | inl same ↦ rw same h.1
  | inr other ↦ rw other (apart_from id e.0 es h.0, apart_without id es h.1)
]

fewer : (id : ℕ) (es : List (ℕ × Card)) → length (remove_entry (is_id id) es) ≤ length es
fewer id [] = omega arith
fewer id (e ∷ es) = elim (cases_Bool (is_id id e.0)) [
  | inl same ↦ rw same (omega arith)
  | inr other ↦ rw other (omega (arith, fewer id es))
]

-- a queue keeps what it keeps when a packet leaves
pub held_without : (h : WithOffer) (id : ℕ) → IsQueue h → h.offer ≡ None →
    IsQueue (record { state = without h.state id; offer = None })
held_without h id is none = record {
  mode = is.mode;
  range = is.range;
  apart = apart_without id h.state.waiting is.apart;
  next = tt;
  undecided = tt;
  few = omega (arith, fewer id h.state.waiting, is.few);
}

-- and when one is offered under the next id
pub held_offered : (q : Bound) (id : ℕ) (card : Card) → q.maximum < id_count →
    IsQueue (record { state = q; offer = None }) → turns_away q ≡ false → id ≡ next_id q →
    IsQueue (record { state = q; offer = Some (id, card) })
held_offered q id card maximum is undecided next = record {
  mode = is.mode;
  range = is.range;
  apart = is.apart;
  next = next;
  undecided = undecided;
  few = omega (
    arith,
    leb-false q.maximum (length q.waiting)
        (or_parts (q.mode == copy_none) (is_full q) undecided).1,
  );
}

-- and when it is settled
pub held_taken : (q : Bound) (id : ℕ) (card : Card) → q.last < id_count →
    IsQueue (record { state = q; offer = Some (id, card) }) →
    IsQueue (record { state = taken q id card; offer = None })
held_taken q id card last is = record {
  mode = is.mode;
  range = is.range;
  apart = rw (map_push (λ (w : ℕ × Card). w.0) q.waiting (id, card))
      (IsDistinct-push nat_eq_equiv (keys_of q.waiting) id is.apart free);
  next = tt;
  undecided = tt;
  few = omega (arith, length_push q.waiting (id, card), is.few);
}
  where
    free : is_among (keys_of q.waiting) id ≡ false
    free = ap (is_among (keys_of q.waiting)) is.next
        ∙ fresh_is_free q.last (keys_of q.waiting) last
        (omega (arith, length-keys_of q.waiting, is.few))

-- a queue where nothing waits keeps it
pub held_empty : (q : Bound) → IsMode q.mode → q.range ≤ longest_range → q.waiting ≡ [] →
    IsQueue (record { state = q; offer = None })
unfolding IsDistinct
held_empty q mode range none = record {
  mode = mode;
  range = range;
  apart = subst (λ (es : List (ℕ × Card)). IsDistinct nat_eq (keys_of es)) (sym none) tt;
  next = tt;
  undecided = tt;
  few = omega (arith, ap (λ (es : List (ℕ × Card)). length es) none);
}

-- those that wait stay apart when the oldest leave
pub apart_dropped : (n : ℕ) (es : List (ℕ × Card)) → IsDistinct nat_eq (keys_of es) →
    IsDistinct nat_eq (keys_of (drop n es))
unfolding IsDistinct
apart_dropped zero es h = h
apart_dropped (suc n) [] h = tt
apart_dropped (suc n) (e ∷ es) h = apart_dropped n es h.1

-- a queue keeps what it keeps when the oldest leave
pub held_without_oldest : (w : WithOffer) (n : ℕ) → IsQueue w → w.offer ≡ None →
    IsQueue (record { state = without_oldest w.state n; offer = None })
held_without_oldest w n is none = record {
  mode = is.mode;
  range = is.range;
  apart = apart_dropped n w.state.waiting is.apart;
  next = tt;
  undecided = tt;
  few = omega (arith, length-drop n w.state.waiting, is.few);
}
