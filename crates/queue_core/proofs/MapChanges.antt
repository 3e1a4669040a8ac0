-- What a change of the map makes of the list.
use Rattle.std.proofs.Common.{◌≡◌, ℕ, zero, suc, ◌+◌, drop, Bool, List, [], ◌∷◌, ◌++◌, length}
use Rattle.std.proofs.Common.{Option, Some, None}
use Rattle.std.proofs.Common.{true, false, cond, refl, sym, ap, ◌∙◌, arith, inl, inr}
use Rattle.std.proofs.lemmas.Bool.{cases_Bool, cases_eq, eqb-true}
use Rattle.std.proofs.lemmas.List.{length_push, map_push}
use Rattle.std.proofs.lemmas.Map.Keys.{IsDistinct-push}
use Rattle.std.specs.Cmp.{nat_eq_equiv}
use Rattle.std.specs.Ordering.{nat_cmp}
use Rattle.std.specs.List.{IsDistinct}
use Rattle.std.specs.Map.{lookup, remove_entry, keys_of}
use Rattle.std.specs.BTreeMap.{BTreeMap, is_at, UpdatesBy, WritesThrough}
use Rattle.std.specs.Prelude.{option_map, is_none, is_some}
use Rattle.packet_entry.specs.declared.packet.Card.{Card}
use Rattle.queue_core.specs.declared.linked.Linked.{Linked}
use Rattle.queue_core.specs.Ids.{is_id, is_among}
use Rattle.queue_core.specs.Linked.{Entries, entry_at, oldest_of, youngest_of, linked_at, IsLinked}
use Rattle.queue_core.specs.Linked.{put_at, younger_given, older_given}
use Rattle.queue_core.proofs.Links.{gone_at, appended, youngest_after, oldest_after, removed}
use Rattle.queue_core.proofs.Links.{oldest_removed, youngest_removed, one_fewer_left}
use Rattle.queue_core.proofs.Links.{steps_on}
use Rattle.queue_core.proofs.WaitingList.{apart_without}

-- a packet was put under a free id, and the youngest before it names it
pub pushed : (m put linked : Entries) (oldest youngest first : Option ℕ) (ws : List (ℕ × Card))
    (id : ℕ) (card : Card) → IsLinked m oldest youngest ws → is_among (keys_of ws) id ≡ false →
    ((k : ℕ) → entry_at put k ≡ put_at id card youngest k (entry_at m k)) →
    length put ≡ length m + 1 →
    ((k : ℕ) → entry_at linked k ≡ younger_given youngest (Some id) k (entry_at put k)) →
    length linked ≡ length put →
    first ≡ cond (is_none youngest) (Some id) oldest →
    IsLinked linked first (Some id) (ws ++ (id, card) ∷ [])
pushed m put linked oldest youngest first ws id card l free puts one_more links as_many ends =
    record {
      each = each;
      as_many = omega (arith, length_push ws (id, card), l.as_many, one_more, as_many);
      apart = rw (map_push (λ (w : ℕ × Card). w.0) ws (id, card))
          (IsDistinct-push nat_eq_equiv (keys_of ws) id l.apart free);
      first = ends ∙ ap (λ y. cond (is_none y) (Some id) oldest) l.last
          ∙ ap (cond (is_none (youngest_of None ws)) (Some id)) l.first
          ∙ sym (oldest_after ws (id, card));
      last = sym (youngest_after None ws (id, card));
    }
  where
    each : (k : ℕ) → entry_at linked k ≡ linked_at None (ws ++ (id, card) ∷ []) k
    each k = links k
        ∙ ap (younger_given youngest (Some id) k)
        (puts k ∙ ap (put_at id card youngest k) (l.each k))
        ∙ ap (λ y. younger_given y (Some id) k (put_at id card y k (linked_at None ws k))) l.last
        ∙ appended None ws id card k free l.apart refl

-- a packet was taken out, and its neighbours name each other
pub taken_out : (m gone half linked : Entries) (oldest youngest first last : Option ℕ)
    (ws : List (ℕ × Card)) (id : ℕ) (e : Linked) → IsLinked m oldest youngest ws →
    entry_at m id ≡ Some e →
    ((k : ℕ) → entry_at gone k ≡ gone_at id k (entry_at m k)) →
    length gone + 1 ≡ length m →
    ((k : ℕ) → entry_at half k ≡ younger_given e.older e.younger k (entry_at gone k)) →
    length half ≡ length gone →
    first ≡ cond (is_none e.older) e.younger oldest →
    ((k : ℕ) → entry_at linked k ≡ older_given e.younger e.older k (entry_at half k)) →
    length linked ≡ length half →
    last ≡ cond (is_none e.younger) e.older youngest →
    IsLinked linked first last (remove_entry (is_id id) ws)
taken_out m gone half linked oldest youngest first last ws id e l found goes one_fewer youngers
    as_many ends olders as_many_2 ends_2 =
    record {
      each = each;
      as_many =
          omega (
            arith,
            one_fewer_left None ws id e is,
            l.as_many,
            one_fewer,
            as_many,
            as_many_2,
          );
      apart = apart_without id ws l.apart;
      first = ends ∙ ap (cond (is_none e.older) e.younger) l.first
          ∙ sym (oldest_removed ws id e is);
      last = ends_2 ∙ ap (cond (is_none e.younger) e.older) l.last
          ∙ sym (youngest_removed None ws id e is);
    }
  where
    is : linked_at None ws id ≡ Some e
    is = sym (l.each id) ∙ found

    none_named : (k : ℕ) → false ≡ true → is_among (keys_of ws) k ≡ false
    none_named k h = absurd (cc)

    each : (k : ℕ) → entry_at linked k ≡ linked_at None (remove_entry (is_id id) ws) k
    each k = olders k
        ∙ ap (older_given e.younger e.older k)
        (youngers k
        ∙ ap (younger_given e.older e.younger k)
        (goes k ∙ ap (gone_at id k) (l.each k)))
        ∙ removed None ws id k e l.apart none_named is

-- an id as the map tells it is an id as the definitions do
pub same_test : (id k : ℕ) → is_at (nat_cmp id) k ≡ is_id k id
same_test id k = elim (cases_eq k id) [
  | inl e ↦ grind (arith, e)
  | inr e ↦ grind (arith, e)
]

-- nothing stands in a map without entries
pub empty_linked : (m : Entries) → m ≡ [] → IsLinked m None None []
unfolding IsDistinct
empty_linked m empty = record {
  each = λ id. ap (lookup (is_at (nat_cmp id))) empty;
  as_many = ap (λ (es : Entries). length es) empty;
  apart = tt;
  first = refl;
  last = refl;
}

-- what the map says of a removal
pub gone_by : (m n : BTreeMap ℕ Linked) (id : ℕ) → UpdatesBy nat_cmp (nat_cmp id) m n None →
    (k : ℕ) → entry_at n.entries k ≡ gone_at id k (entry_at m.entries k)
gone_by m n id u k = u.0 k ∙ ap (λ b. cond b None (entry_at m.entries k)) (same_test id k)

-- what was written through an entry that the map lent
pub through : (m n : BTreeMap ℕ Linked) (id : ℕ) (e : Linked) (f : Linked → Linked) →
    entry_at m.entries id ≡ Some e → WritesThrough nat_cmp (nat_cmp id) m (f e) n → (k : ℕ) →
    entry_at n.entries k
    ≡ cond (is_id k id) (option_map f (entry_at m.entries k)) (entry_at m.entries k)
through m n id e f found w k =
    let u : UpdatesBy nat_cmp (nat_cmp id) m n (Some (f e)) = w.3 (ap is_some found) in
    let tested : entry_at n.entries k ≡ cond (is_id k id) (Some (f e)) (entry_at m.entries k) =
    u.0 k ∙ ap (λ b. cond b (Some (f e)) (entry_at m.entries k)) (same_test id k) in
    tested ∙ written (is_id k id) (λ s. ap (entry_at m.entries) (eqb-true k id s) ∙ found)
  where
    written : (b : Bool) → (b ≡ true → entry_at m.entries k ≡ Some e) →
        cond b (Some (f e)) (entry_at m.entries k)
        ≡ cond b (option_map f (entry_at m.entries k)) (entry_at m.entries k)
    written true h = ap (option_map f) (sym (h refl))
    written false h = refl

-- where nothing stands under the id, nothing is written
pub not_through : (m : Entries) (id : ℕ) (f : Linked → Linked) → entry_at m id ≡ None →
    (k : ℕ) → entry_at m k ≡ cond (is_id k id) (option_map f (entry_at m k)) (entry_at m k)
not_through m id f none k = elim (cases_Bool (is_id k id)) [
  | inl s ↦
      let at : entry_at m k ≡ None = ap (entry_at m) (eqb-true k id s) ∙ none in
      rw s (at ∙ ap (option_map f) (sym at))
  | inr s ↦ rw s refl
]

-- ---- a walk

-- the packet with this id stands at this place
pub record IsStanding (ws : List (ℕ × Card)) (place id : ℕ) : Type 0 where
  pub card : Card
  pub is : drop place ws ≡ (id, card) ∷ drop (suc place) ws

pub standing : (ws : List (ℕ × Card)) (place id : ℕ) → oldest_of (drop place ws) ≡ Some id →
    IsStanding ws place id
standing [] zero id e = absurd (cc)
standing [] (suc place) id e = absurd (cc)
standing (w ∷ ws) zero id e =
    let same : w.0 ≡ id = cc in
    record { card = w.1; is = ap (λ k. (k, w.1) ∷ ws) same }
standing (w ∷ ws) (suc place) id e =
    let s = standing ws place id e in
    record { card = s.card; is = s.is }

next_is : (m : Entries) (oldest youngest : Option ℕ) (ws : List (ℕ × Card)) (place id : ℕ) →
    IsLinked m oldest youngest ws → oldest_of (drop place ws) ≡ Some id →
    option_map (λ (e : Linked). e.younger) (entry_at m id)
    ≡ Some (oldest_of (drop (suc place) ws))
next_is m oldest youngest ws place id l first =
    let s = standing ws place id first in
    ap (option_map (λ (e : Linked). e.younger)) (l.each id)
    ∙ steps_on None ws (drop (suc place) ws) (id, s.card) place l.apart s.is

-- what stands at a place has an entry
pub has_entry : (m : Entries) (oldest youngest : Option ℕ) (ws : List (ℕ × Card))
    (place id : ℕ) → IsLinked m oldest youngest ws → oldest_of (drop place ws) ≡ Some id →
    entry_at m id ≡ None → ⊥
has_entry m oldest youngest ws place id l first none =
    let h : None ≡ Some (oldest_of (drop (suc place) ws)) =
    sym (ap (option_map (λ (e : Linked). e.younger)) none)
    ∙ next_is m oldest youngest ws place id l first in
    absurd (cc)

-- which names the one at the next place
pub goes_to : (m : Entries) (oldest youngest : Option ℕ) (ws : List (ℕ × Card)) (place id : ℕ)
    (e : Linked) → IsLinked m oldest youngest ws → oldest_of (drop place ws) ≡ Some id →
    entry_at m id ≡ Some e → e.younger ≡ oldest_of (drop (suc place) ws)
goes_to m oldest youngest ws place id e l first found =
    let h : Some e.younger ≡ Some (oldest_of (drop (suc place) ws)) =
    sym (ap (option_map (λ (x : Linked). x.younger)) found)
    ∙ next_is m oldest youngest ws place id l first in
    cc
