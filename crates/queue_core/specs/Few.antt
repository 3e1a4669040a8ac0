-- The first under an id among what waits; and, for proofs alone, what is looked for from the oldest
-- on.
use Rattle.std.proofs.Common.{◌≡◌, ◌<◌, ℕ, zero, suc, List, [], ◌∷◌, ◌++◌, length, get_or, take}
use Rattle.std.proofs.Common.{drop}
use Rattle.std.proofs.Common.{Some, None, Bool, true, false, cond, refl, sym, ap, ◌∙◌, arith}
use Rattle.std.proofs.Math.Seq.{drop-cons}
use Rattle.std.proofs.lemmas.Option.{slice_get-get_or}
use Rattle.std.proofs.lemmas.Bool.{eq-eqb}
use Rattle.std.specs.Map.{lookup, remove_entry, keys_of}
use Rattle.std.specs.Prelude.{slice_get, option_map, remove, is_some, ◌||◌, Option, OnSome}
use Rattle.std.specs.Prelude.{MatchOption}
use Rattle.packet_entry.specs.declared.packet.Card.{Card}
use Rattle.queue_core.specs.Ids.{is_id, is_among}

-- the oldest under an id stands at this place
pub record IsPlace (waiting : List (ℕ × Card)) (id place : ℕ) : Type 0 where
  pub within : place < length waiting
  pub found : lookup (is_id id) waiting ≡ option_map (λ w. w.1) (slice_get waiting place)
  pub others : remove_entry (is_id id) waiting ≡ remove waiting place

abbrev pub Waiting : Type 0
Waiting = List (ℕ × Card)

-- the first under the id, where what stands before it has other ids
pub place_found : (xs : Waiting) (id place : ℕ) (w : ℕ × Card) → place < length xs →
    w ≡ get_or xs place w → w.0 ≡ id
    → lookup (is_id id) xs ≡ lookup (is_id id) (drop place xs)
    → remove_entry (is_id id) xs ≡ take place xs ++ remove_entry (is_id id) (drop place xs)
    → IsPlace xs id place
place_found xs id place w within at_place same passed_lookup passed_remove = record {
  within = within;
  found = passed_lookup ∙ ap (lookup (is_id id)) front
      ∙ ap (λ b. cond b (Some w.1) (lookup (is_id id) (drop (suc place) xs))) test
      ∙ ap (option_map (λ (v : ℕ × Card). v.1)) (sym there);
  others = passed_remove ∙ ap (λ ys. take place xs ++ remove_entry (is_id id) ys) front
      ∙ ap (λ b. take place xs ++ cond b (drop (suc place) xs)
      (w ∷ remove_entry (is_id id) (drop (suc place) xs))) test;
}
  where
    front : drop place xs ≡ w ∷ drop (suc place) xs
    front = drop-cons xs place w within ∙ ap (λ v. v ∷ drop (suc place) xs) (sym at_place)

    test : is_id id w.0 ≡ true
    test = eq-eqb id w.0 (sym same)

    there : slice_get xs place ≡ Some w
    there = slice_get-get_or xs place w within ∙ ap Some (sym at_place)

-- ---- what waits in two parts, the older ones first

-- what is found among the older ones is found, and leaves them
lookup_older : (t : ℕ → Bool) (xs ys : Waiting) (card : Card) → lookup t xs ≡ Some card →
    lookup t (xs ++ ys) ≡ Some card
lookup_older t [] ys card = λ h. absurd (cc)
lookup_older t (x ∷ xs) ys card =
    elim (t x.0) as (λ b. cond b (Some x.1) (lookup t xs) ≡ Some card →
    cond b (Some x.1) (lookup t (xs ++ ys)) ≡ Some card) [
      | true ↦ λ h. h
      | false ↦ lookup_older t xs ys card
    ]

remove_older : (t : ℕ → Bool) (xs ys : Waiting) (card : Card) → lookup t xs ≡ Some card →
    remove_entry t (xs ++ ys) ≡ remove_entry t xs ++ ys
remove_older t [] ys card = λ h. absurd (cc)
remove_older t (x ∷ xs) ys card =
    elim (t x.0) as (λ b. cond b (Some x.1) (lookup t xs) ≡ Some card →
    cond b (xs ++ ys) (x ∷ remove_entry t (xs ++ ys))
    ≡ cond b xs (x ∷ remove_entry t xs) ++ ys) [
      | true ↦ λ h. refl
      | false ↦ λ h. ap (λ (zs : Waiting). x ∷ zs) (remove_older t xs ys card h)
    ]

-- what isn't among them is looked for among the others
lookup_younger : (t : ℕ → Bool) (xs ys : Waiting) → lookup t xs ≡ None →
    lookup t (xs ++ ys) ≡ lookup t ys
lookup_younger t [] ys = λ h. refl
lookup_younger t (x ∷ xs) ys =
    elim (t x.0) as (λ b. cond b (Some x.1) (lookup t xs) ≡ None →
    cond b (Some x.1) (lookup t (xs ++ ys)) ≡ lookup t ys) [
      | true ↦ λ h. absurd (cc)
      | false ↦ lookup_younger t xs ys
    ]

remove_younger : (t : ℕ → Bool) (xs ys : Waiting) → lookup t xs ≡ None →
    remove_entry t (xs ++ ys) ≡ xs ++ remove_entry t ys
remove_younger t [] ys = λ h. refl
remove_younger t (x ∷ xs) ys =
    elim (t x.0) as (λ b. cond b (Some x.1) (lookup t xs) ≡ None →
    cond b (xs ++ ys) (x ∷ remove_entry t (xs ++ ys)) ≡ x ∷ xs ++ remove_entry t ys) [
      | true ↦ λ h. absurd (cc)
      | false ↦ λ h. ap (λ (zs : Waiting). x ∷ zs) (remove_younger t xs ys h)
    ]

-- the first under the id leaves the older ones
pub taken_older : (id place : ℕ) (xs left ys : Waiting) (w : ℕ × Card) → IsPlace xs id place →
    w ≡ get_or xs place w → left ≡ remove xs place →
    (Some w.1 ≡ lookup (is_id id) (xs ++ ys))
    × (left ++ ys ≡ remove_entry (is_id id) (xs ++ ys))
taken_older id place xs left ys w at_place there gone = (
  sym (lookup_older (is_id id) xs ys w.1 found),
  ap (λ (zs : Waiting). zs ++ ys) (gone ∙ sym at_place.others)
      ∙ sym (remove_older (is_id id) xs ys w.1 found),
)
  where
    found : lookup (is_id id) xs ≡ Some w.1
    found = at_place.found ∙ ap (option_map (λ (v : ℕ × Card). v.1))
        (slice_get-get_or xs place w at_place.within ∙ ap Some (sym there))

-- what isn't among them leaves the others
pub taken_younger : (id : ℕ) (xs ys : Waiting) → lookup (is_id id) xs ≡ None →
    (lookup (is_id id) ys ≡ lookup (is_id id) (xs ++ ys))
    × (xs ++ remove_entry (is_id id) ys ≡ remove_entry (is_id id) (xs ++ ys))
taken_younger id xs ys none = (
  sym (lookup_younger (is_id id) xs ys none),
  sym (remove_younger (is_id id) xs ys none),
)

-- and so does what leaves them, where it was there
pub left_younger : (found : Option Card) (id : ℕ) (xs ys left : Waiting) →
    lookup (is_id id) xs ≡ None → OnSome found (left ≡ remove_entry (is_id id) ys) →
    OnSome found (xs ++ left ≡ remove_entry (is_id id) (xs ++ ys))
left_younger None id xs ys left none gone = gone
left_younger (Some card) id xs ys left none gone =
    ap (λ (zs : Waiting). xs ++ zs) gone ∙ (taken_younger id xs ys none).1

-- what stands at a place of the older ones is the first from there on
pub first_from : (place : ℕ) (xs ys : Waiting) (w : ℕ × Card) → place < length xs →
    w ≡ get_or xs place w → drop place (xs ++ ys) ≡ w ∷ drop (suc place) (xs ++ ys)
first_from place [] ys w within there = absurd (omega (arith, within))
first_from zero (x ∷ xs) ys w within there = ap (λ (v : ℕ × Card). v ∷ xs ++ ys) (sym there)
first_from (suc place) (x ∷ xs) ys w within there =
    first_from place xs ys w (omega (arith, within)) there

-- behind the older ones stand the others
pub behind : (xs ys : Waiting) → drop (length xs) (xs ++ ys) ≡ ys
behind [] ys = refl
behind (x ∷ xs) ys = behind xs ys

-- where nothing waits, nothing is in either part
pub none_in_either : (xs ys : Waiting) → xs ++ ys ≡ [] → (length xs ≡ 0) × (ys ≡ [])
none_in_either [] ys none = (refl, none)
none_in_either (x ∷ xs) ys none = absurd (cc)

-- ---- whether something waits under an id

among_found : (id : ℕ) (xs : Waiting) → is_some (lookup (is_id id) xs) ≡ is_among (keys_of xs) id
among_found id [] = refl
among_found id (x ∷ xs) =
    elim (is_id id x.0) as (λ b. is_some (cond b (Some x.1) (lookup (is_id id) xs))
    ≡ (b || is_among (keys_of xs) id)) [
      | true ↦ refl
      | false ↦ among_found id xs
    ]

among_either : (id : ℕ) (xs ys : Waiting) → is_among (keys_of (xs ++ ys)) id
    ≡ (is_among (keys_of xs) id || is_among (keys_of ys) id)
among_either id [] ys = refl
among_either id (x ∷ xs) ys =
    elim (is_id id x.0) as (λ b. (b || is_among (keys_of (xs ++ ys)) id)
    ≡ ((b || is_among (keys_of xs) id) || is_among (keys_of ys) id)) [
      | true ↦ refl
      | false ↦ among_either id xs ys
    ]

some_at : (xs : Waiting) (place : ℕ) → place < length xs →
    is_some (option_map (λ (w : ℕ × Card). w.1) (slice_get xs place)) ≡ true
some_at [] place within = absurd (omega (arith, within))
some_at (x ∷ xs) place within =
    ap (λ o. is_some (option_map (λ (w : ℕ × Card). w.1) o))
    (slice_get-get_or (x ∷ xs) place x within)

-- a place is found where the id is among the older ones
placed : (id : ℕ) (xs : Waiting) (place : Option ℕ) →
    MatchOption place (lookup (is_id id) xs ≡ None) (IsPlace xs id) →
    is_some place ≡ is_among (keys_of xs) id
placed id xs None none = ap is_some (sym none) ∙ among_found id xs
placed id xs (Some place) there =
    sym (ap is_some there.found ∙ some_at xs place there.within) ∙ among_found id xs

pub is_older : (id : ℕ) (xs ys : Waiting) (place : Option ℕ) →
    MatchOption place (lookup (is_id id) xs ≡ None) (IsPlace xs id) → is_some place ≡ true →
    is_among (keys_of (xs ++ ys)) id ≡ true
is_older id xs ys place at_place some =
    among_either id xs ys
    ∙ ap (λ b. b || is_among (keys_of ys) id) (sym (placed id xs place at_place) ∙ some)

pub is_no_older : (id : ℕ) (xs ys : Waiting) (place : Option ℕ) →
    MatchOption place (lookup (is_id id) xs ≡ None) (IsPlace xs id) → is_some place ≡ false →
    is_among (keys_of (xs ++ ys)) id ≡ is_among (keys_of ys) id
is_no_older id xs ys place at_place none =
    among_either id xs ys
    ∙ ap (λ b. b || is_among (keys_of ys) id) (sym (placed id xs place at_place) ∙ none)
