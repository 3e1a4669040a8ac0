-- What waits, in a map by id whose entries name their neighbours.
use Rattle.std.specs.Prelude.{◌≡◌, ℕ, zero, suc, List, [], ◌∷◌, ◌++◌, length, Option, Some, None}
use Rattle.std.specs.Prelude.{Bool, false, nat_eq, if◌then◌else◌, option_map}
use Rattle.std.specs.BTreeMap.{is_at}
use Rattle.std.specs.Ordering.{nat_cmp}
use Rattle.std.specs.List.{IsDistinct}
use Rattle.std.specs.Map.{keys_of, lookup, remove_entry}
use Rattle.packet_entry.specs.declared.packet.Card.{Card}
use Rattle.queue_core.specs.declared.linked.Linked.{Linked}
use Rattle.queue_core.specs.Ids.{is_id}

-- the entries of such a map
abbrev pub Entries : Type 0
Entries = List (ℕ × Linked)

-- what stands under an id
abbrev pub entry_at : Entries → ℕ → Option Linked
entry_at entries id = lookup (is_at (nat_cmp id)) entries

-- ---- a list, linked

-- the id of the oldest
abbrev pub oldest_of : List (ℕ × Card) → Option ℕ
oldest_of [] = None
oldest_of (w ∷ ws) = Some w.0

-- the id of the youngest; where nothing waits, the one that stands before
abbrev pub youngest_of : Option ℕ → List (ℕ × Card) → Option ℕ
youngest_of before [] = before
youngest_of before (w ∷ ws) = youngest_of (Some w.0) ws

-- What stands under an id where the list is linked, behind the id that stands before it: the
-- packet, the id before it, and the id after it.
abbrev pub linked_at : Option ℕ → List (ℕ × Card) → ℕ → Option Linked
linked_at before [] id = None
linked_at before (w ∷ ws) id =
    if is_id id w.0
    then Some (record { packet = w.1; older = before; younger = oldest_of ws })
    else linked_at (Some w.0) ws id

-- The entries are those of the list, each with the ids of its neighbours in it; they are as many,
-- no two have one id, and the two ends are named.
pub record IsLinked (entries : Entries) (oldest youngest : Option ℕ) (waiting : List (ℕ × Card))
    : Type 0 where
  pub each : (id : ℕ) → entry_at entries id ≡ linked_at None waiting id
  pub as_many : length entries ≡ length waiting
  pub apart : IsDistinct nat_eq (keys_of waiting)
  pub first : oldest ≡ oldest_of waiting
  pub last : youngest ≡ youngest_of None waiting

-- ---- the neighbours, followed

-- the packet of this entry under its id, and what comes then
abbrev pub and_then : ℕ → (Linked → List (ℕ × Card)) → Option Linked → List (ℕ × Card)
and_then id on None = []
and_then id on (Some linked) = (id, linked.packet) ∷ on linked

-- From this id on, so many entries at most, each followed by its younger neighbour.
abbrev pub followed : ℕ → Entries → Option ℕ → List (ℕ × Card)
followed zero entries at = []
followed (suc steps) entries None = []
followed (suc steps) entries (Some id) =
    and_then id (λ linked. followed steps entries linked.younger) (entry_at entries id)

-- The same by the older neighbours.
abbrev pub followed_back : ℕ → Entries → Option ℕ → List (ℕ × Card)
followed_back zero entries at = []
followed_back (suc steps) entries None = []
followed_back (suc steps) entries (Some id) =
    and_then id (λ linked. followed_back steps entries linked.older) (entry_at entries id)

-- ---- changes

-- whether an id is the one that is named, if one is
abbrev pub is_named : Option ℕ → ℕ → Bool
is_named None id = false
is_named (Some named) id = is_id id named

-- what stands under an id after a packet was put, under its id, behind this one
abbrev pub put_at : ℕ → Card → Option ℕ → ℕ → Option Linked → Option Linked
put_at named card older id entry =
    if is_id id named
    then Some (record { packet = card; older = older; younger = None })
    else entry

-- an entry with this younger neighbour, and with this older one
abbrev pub with_younger : Option ℕ → Linked → Linked
with_younger younger e = record e { younger = younger }

abbrev pub with_older : Option ℕ → Linked → Linked
with_older older e = record e { older = older }

-- what stands under an id after the entry that is named was given this younger neighbour
abbrev pub younger_given : Option ℕ → Option ℕ → ℕ → Option Linked → Option Linked
younger_given named younger id entry =
    if is_named named id then option_map (with_younger younger) entry else entry

-- the same of an older neighbour
abbrev pub older_given : Option ℕ → Option ℕ → ℕ → Option Linked → Option Linked
older_given named older id entry =
    if is_named named id then option_map (with_older older) entry else entry

-- ---- an offer

-- It waits under this id, last of all.
pub record IsLast (waiting : List (ℕ × Card)) (id : ℕ) : Type 0 where
  pub card : Card
  pub found : lookup (is_id id) waiting ≡ Some card
  pub behind : waiting ≡ remove_entry (is_id id) waiting ++ (id, card) ∷ []

-- the list without what stands under the id of an offer, if there is one
abbrev pub without_offer : Option ℕ → List (ℕ × Card) → List (ℕ × Card)
without_offer None waiting = waiting
without_offer (Some id) waiting = remove_entry (is_id id) waiting

-- the offer, with its id
abbrev pub offer_in : Option ℕ → List (ℕ × Card) → Option (ℕ × Card)
offer_in None waiting = None
offer_in (Some id) waiting = option_map (λ card. (id, card)) (lookup (is_id id) waiting)
