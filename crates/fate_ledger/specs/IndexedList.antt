-- Many packets that wait, as they are kept: each at its place, where places count up, and beside it
-- the places of each id.
use Rattle.std.specs.Prelude.{◌≡◌, ◌≤◌, ℕ, Bool, false, true, Option, Some, None}
use Rattle.std.specs.Map.{lookup, remove_entry, values_of}
use Rattle.std.specs.Ordering.{nat_cmp, ordering_then, is_gt}
use Rattle.std.specs.BTreeMap.{BTreeMap, get, is_at, IsOrdered}
use Rattle.std.specs.declared.cmp.Ordering.{Ordering}
use Rattle.std.specs.BTreeSet.{BTreeSet, contains}
use Rattle.packet_entry.specs.declared.packet.Card.{Card}
use Rattle.queue_core.specs.Ids.{is_id}

-- ids with places are in the order of the ids, and under one id in that of the places
abbrev pub pair_cmp : ℕ × ℕ → ℕ × ℕ → Ordering
pair_cmp x y = ordering_then (nat_cmp x.0 y.0) (nat_cmp x.1 y.1)

-- whether what is found at a place waits under this id
abbrev pub is_under : ℕ → Option (ℕ × Card) → Bool
is_under id None = false
is_under id (Some w) = is_id id w.0

-- the places of an id are those where something waits under it
pub record IsIndexed (by_place : BTreeMap ℕ (ℕ × Card)) (places : BTreeSet (ℕ × ℕ)) : Type 0 where
  pub ordered : IsOrdered nat_cmp by_place
  pub indexed : (id place : ℕ) → contains pair_cmp places (id, place)
      ≡ is_under id (get nat_cmp by_place place)

-- nothing waits at this place or after it
abbrev pub IsAhead : BTreeMap ℕ (ℕ × Card) → ℕ → Type 0
IsAhead by_place next = (place : ℕ) → next ≤ place → get nat_cmp by_place place ≡ None

-- the oldest under an id waits at this place
pub record IsFirstPlace (by_place : BTreeMap ℕ (ℕ × Card)) (id place : ℕ) : Type 0 where
  pub card : Card
  pub there : get nat_cmp by_place place ≡ Some (id, card)
  pub found : lookup (is_id id) (values_of by_place.entries) ≡ Some card
  pub others : remove_entry (is_id id) (values_of by_place.entries)
      ≡ values_of (remove_entry (is_at (nat_cmp place)) by_place.entries)

-- no place of this id is kept
abbrev pub HasNoPlace : BTreeSet (ℕ × ℕ) → ℕ → Type 0
HasNoPlace places id = (place : ℕ) → contains pair_cmp places (id, place) ≡ false

-- a kept id with its place, which isn't before this id, nor after any place of it
pub record IsFirstFrom (places : BTreeSet (ℕ × ℕ)) (id : ℕ) (first : ℕ × ℕ) : Type 0 where
  pub kept : contains pair_cmp places first ≡ true
  pub from : is_gt (pair_cmp (id, 0) first) ≡ false
  pub least : (place : ℕ) → contains pair_cmp places (id, place) ≡ true →
      is_gt (pair_cmp first (id, place)) ≡ false
