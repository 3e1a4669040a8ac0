-- What waits, as the cache keeps it.
use Rattle.std.proofs.Common.{◌≡◌, ◌≤◌, ◌<◌, ◌-◌, ◌^◌, ℕ, List, [], ◌∷◌, ◌++◌, length, take, Option}
use Rattle.std.proofs.Common.{Some, None, true, false, cond, refl, sym, ap, ◌∙◌, arith}
use Rattle.std.proofs.Common.{take_all}
use Rattle.std.specs.Prelude.{nat_eq, is_some, ◌||◌}
use Rattle.std.specs.Map.{lookup, lookup_entry, remove_entry, keys_of}
use Rattle.std.specs.Option.{option_map_or}
use Rattle.std.proofs.lemmas.Bool.{eq-eqb}
use Rattle.std.proofs.lemmas.Option.{same_Some}
use Rattle.std.specs.Prelude.{slice_get}
use Rattle.lru.specs.LruCache.{LruCache, lru_cache, put_entries, demoted}
use Rattle.packet_entry.specs.declared.packet.Card.{Card}
use Rattle.queue_core.specs.Ids.{is_id, is_among}
use Rattle.queue_replay.specs.Waiting.{IsOldest}

-- a look-up finds what is among the ids
pub among : (id : ℕ) (ws : List (ℕ × Card)) →
    is_some (lookup (is_id id) ws) ≡ is_among (keys_of ws) id
among id [] = refl
among id (w ∷ ws) =
    elim (is_id id w.0) as (λ b. is_some (cond b (Some w.1) (lookup (is_id id) ws))
    ≡ b || is_among (keys_of ws) id) [
      | true ↦ refl
      | false ↦ among id ws
    ]

-- and nothing else
none_there : (id : ℕ) (ws : List (ℕ × Card)) → is_among (keys_of ws) id ≡ false →
    lookup_entry (nat_eq id) ws ≡ None
none_there id [] free = refl
none_there id (w ∷ ws) free =
    (elim (is_id id w.0) as (λ b. b || is_among (keys_of ws) id ≡ false →
    cond b (Some w) (lookup_entry (nat_eq id) ws) ≡ None) [
      | true ↦ λ h. absurd (let wrong : true ≡ false = h in cc)
      | false ↦ λ h. none_there id ws h
    ]) free

-- what was used last stands first, and is put last
first_goes_last : (id : ℕ) (card : Card) (ws : List (ℕ × Card)) →
    demoted (nat_eq id) ((id, card) ∷ ws) ≡ ws ++ (id, card) ∷ []
first_goes_last id card ws =
    ap (λ b. option_map_or
    (λ (e : ℕ × Card). cond b ws ((id, card) ∷ remove_entry (nat_eq id) ws) ++ e ∷ [])
    (cond b (Some (id, card)) (lookup_entry (nat_eq id) ws)) ((id, card) ∷ ws))
    (eq-eqb id id refl)

-- what is put under a free id and goes last comes behind all others
pub put_last : (c : LruCache ℕ Card) (id : ℕ) (card : Card) → c.cap ≡ 2 ^ 64 - 1 →
    length c.entries < 2 ^ 32 → is_among (keys_of c.entries) id ≡ false →
    demoted (nat_eq id) (put_entries nat_eq c id card) ≡ c.entries ++ (id, card) ∷ []
put_last c id card cap few free =
    ap (demoted (nat_eq id))
    (ap (λ (o : Option (ℕ × Card)). option_map_or
    (λ (e : ℕ × Card). (e.0, card) ∷ remove_entry (nat_eq id) c.entries) o
    ((id, card) ∷ take (c.cap - 1) c.entries)) (none_there id c.entries free)
    ∙ ap (λ (ws : List (ℕ × Card)). (id, card) ∷ ws)
    (take_all (c.cap - 1) c.entries (omega (arith, cap, few))))
    ∙ first_goes_last id card c.entries

-- and as many may be kept as before
pub pushed : (a b d : LruCache ℕ Card) (id : ℕ) (card : Card) → a.cap ≡ 2 ^ 64 - 1 →
    length a.entries < 2 ^ 32 → is_among (keys_of a.entries) id ≡ false →
    b ≡ lru_cache (put_entries nat_eq a id card) a.cap →
    d ≡ lru_cache (demoted (nat_eq id) b.entries) b.cap →
    (d.entries ≡ a.entries ++ (id, card) ∷ []) × (d.cap ≡ 2 ^ 64 - 1)
pushed a b d id card cap few free put went = (
  ap (λ (c : LruCache ℕ Card). c.entries) went
      ∙ ap (λ (c : LruCache ℕ Card). demoted (nat_eq id) c.entries) put
      ∙ put_last a id card cap few free,
  ap (λ (c : LruCache ℕ Card). c.cap) went ∙ ap (λ (c : LruCache ℕ Card). c.cap) put ∙ cap,
)

-- the first of them is the oldest
pub first_is_oldest : (ws : List (ℕ × Card)) (id : ℕ) (card : Card) →
    Some (id, card) ≡ slice_get ws 0 → IsOldest ws id
first_is_oldest [] id card found = absurd (let wrong : Some (id, card) ≡ None = found in cc)
first_is_oldest (w ∷ ws) id card found = record {
  card = card;
  others = ws;
  first = ap (λ (v : ℕ × Card). v ∷ ws) (sym (same_Some (id, card) w found));
}

pub none_is_oldest : (ws : List (ℕ × Card)) → None ≡ slice_get ws 0 → ws ≡ []
none_is_oldest [] found = refl
none_is_oldest (w ∷ ws) found = absurd (let wrong : None ≡ Some w = found in cc)

-- no more are left where one is taken out
pub no_more : (id : ℕ) (ws : List (ℕ × Card)) → length (remove_entry (nat_eq id) ws) ≤ length ws
no_more id [] = omega arith
no_more id (w ∷ ws) =
    elim (nat_eq id w.0) as (λ b. length (cond b ws (w ∷ remove_entry (nat_eq id) ws))
    ≤ length (w ∷ ws)) [
      | true ↦ omega arith
      | false ↦ omega (arith, no_more id ws)
    ]
