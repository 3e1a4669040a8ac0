-- An offer is last of what is kept, and the others are what waits.
use Rattle.std.proofs.Common.{◌≡◌, ℕ, List, [], ◌∷◌, ◌++◌, Option, Some, None, true, false, refl}
use Rattle.std.proofs.Common.{sym, ap, ◌∙◌}
use Rattle.std.proofs.lemmas.Bool.{eq-eqb, or_parts}
use Rattle.std.specs.Map.{lookup, remove_entry, keys_of}
use Rattle.std.specs.Prelude.{IfSome, option_map}
use Rattle.packet_entry.specs.declared.packet.Card.{Card}
use Rattle.queue_core.specs.Ids.{is_id, is_among}
use Rattle.queue_core.specs.Linked.{IsLast, offer_in}

-- where no offer is seen, none is kept
pub none_kept : (offer : Option ℕ) (ws : List (ℕ × Card)) → IfSome offer (IsLast ws) →
    offer_in offer ws ≡ None → offer ≡ None
none_kept None ws last none = refl
none_kept (Some id) ws last none =
    let found : offer_in None ws ≡ Some (id, last.card) =
    sym none ∙ ap (option_map (λ (card : Card). (id, card))) last.found in
    absurd (cc)

it_is : (id : ℕ) → is_id id id ≡ true
it_is id = eq-eqb id id refl

-- what was put last under a free id is found there,
pub found_last : (ws : List (ℕ × Card)) (id : ℕ) (card : Card) →
    is_among (keys_of ws) id ≡ false → lookup (is_id id) (ws ++ (id, card) ∷ []) ≡ Some card
found_last [] id card free = rw (it_is id) refl
found_last (w ∷ ws) id card free =
    let parts = or_parts (is_id id w.0) (is_among (keys_of ws) id) free in
    rw parts.0 (found_last ws id card parts.1)

-- and the others are what was there before
pub others_stay : (ws : List (ℕ × Card)) (id : ℕ) (card : Card) →
    is_among (keys_of ws) id ≡ false → remove_entry (is_id id) (ws ++ (id, card) ∷ []) ≡ ws
others_stay [] id card free = rw (it_is id) refl
others_stay (w ∷ ws) id card free =
    let parts = or_parts (is_id id w.0) (is_among (keys_of ws) id) free in
    rw parts.0 (ap (λ vs. w ∷ vs) (others_stay ws id card parts.1))

pub is_last : (ws : List (ℕ × Card)) (id : ℕ) (card : Card) → is_among (keys_of ws) id ≡ false →
    IsLast (ws ++ (id, card) ∷ []) id
is_last ws id card free = record {
  card = card;
  found = found_last ws id card free;
  behind = ap (λ vs. vs ++ (id, card) ∷ []) (sym (others_stay ws id card free));
}
