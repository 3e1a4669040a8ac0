-- A linked list: its entries, its ends, and its neighbours followed.
use Rattle.std.proofs.Common.{◌≡◌, ℕ, zero, suc, ◌+◌, List, [], ◌∷◌, ◌++◌, length, drop}
use Rattle.std.proofs.Common.{Option, Some, None, true, false, cond, refl, sym, ap, subst, ◌∙◌}
use Rattle.std.proofs.Common.{arith, inl, inr, reverse, append_assoc, append-nil, zero-add}
use Rattle.std.proofs.lemmas.List.{reverse-append}
use Rattle.std.proofs.lemmas.Bool.{cases_Bool, eqb-true, eqb-false, eq-eqb, ne_eqb, or_parts}
use Rattle.std.proofs.lemmas.Bool.{or_from, or_left, or_right, cond-true, cond-false, both_ways}
use Rattle.std.proofs.lemmas.Bool.{false_from_ne_true}
use Rattle.std.specs.List.{IsDistinct, AllByRecursion}
use Rattle.std.specs.Map.{lookup, remove_entry, keys_of}
use Rattle.std.specs.Prelude.{nat_eq, option_map, is_some, is_none}
use Rattle.packet_entry.specs.declared.packet.Card.{Card}
use Rattle.queue_core.specs.declared.linked.Linked.{Linked}
use Rattle.queue_core.specs.Ids.{is_id, is_among}
use Rattle.queue_core.specs.Linked.{Entries, entry_at, oldest_of, youngest_of, linked_at, IsLinked}
use Rattle.queue_core.specs.Linked.{and_then, followed, followed_back, is_named, put_at}
use Rattle.queue_core.specs.Linked.{younger_given, older_given}

-- the entry of one that stands between these
abbrev pub entry : Option ℕ → ℕ × Card → List (ℕ × Card) → Linked
entry before w ws = record { packet = w.1; older = before; younger = oldest_of ws }

-- what is left of an entry once this id was taken out
abbrev pub gone_at : ℕ → ℕ → Option Linked → Option Linked
gone_at taken id entry = cond (is_id id taken) None entry

-- ---- ids

turned : (a b : ℕ) → is_id a b ≡ false → is_id b a ≡ false
turned a b h = ne_eqb b a (λ e. eqb-false a b h (sym e))

not_among : (k : ℕ) (ks : List ℕ) → AllByRecursion (λ y. nat_eq k y ≡ false) ks →
    is_among ks k ≡ false
not_among k [] h = refl
not_among k (x ∷ xs) h = or_from (is_id k x) (is_among xs k) h.0 (not_among k xs h.1)

-- the id is that of the first, so no later one has it
past_first : (w : ℕ × Card) (ws : List (ℕ × Card)) (id : ℕ) →
    AllByRecursion (λ y. nat_eq w.0 y ≡ false) (keys_of ws) → is_id id w.0 ≡ true →
    is_among (keys_of ws) id ≡ false
past_first w ws id h same =
    ap (is_among (keys_of ws)) (eqb-true id w.0 same) ∙ not_among w.0 (keys_of ws) h

-- a later one has the id, so it isn't that of the first
not_first : (w : ℕ × Card) (ws : List (ℕ × Card)) (id : ℕ) →
    AllByRecursion (λ y. nat_eq w.0 y ≡ false) (keys_of ws) → is_among (keys_of ws) id ≡ true →
    is_id id w.0 ≡ false
not_first w ws id h among =
    false_from_ne_true (is_id id w.0)
    (λ same. both_ways (is_among (keys_of ws) id) (past_first w ws id h same) among)

-- ---- what stands under an id

-- nothing, where no packet has it
pub none_linked : (before : Option ℕ) (ws : List (ℕ × Card)) (id : ℕ) →
    is_among (keys_of ws) id ≡ false → linked_at before ws id ≡ None
none_linked before [] id h = refl
none_linked before (w ∷ ws) id h =
    let parts = or_parts (is_id id w.0) (is_among (keys_of ws) id) h in
    rw parts.0 (none_linked (Some w.0) ws id parts.1)

pub among_linked : (before : Option ℕ) (ws : List (ℕ × Card)) (id : ℕ) →
    is_some (linked_at before ws id) ≡ is_among (keys_of ws) id
among_linked before [] id = refl
among_linked before (w ∷ ws) id = elim (cases_Bool (is_id id w.0)) [
  | inl e ↦ rw e refl
  | inr e ↦ rw e (among_linked (Some w.0) ws id)
]

pub packet_linked : (before : Option ℕ) (ws : List (ℕ × Card)) (id : ℕ) →
    option_map (λ (e : Linked). e.packet) (linked_at before ws id) ≡ lookup (is_id id) ws
packet_linked before [] id = refl
packet_linked before (w ∷ ws) id = elim (cases_Bool (is_id id w.0)) [
  | inl e ↦ rw e refl
  | inr e ↦ rw e (packet_linked (Some w.0) ws id)
]

-- ---- neighbours

last_apart : (before : Option ℕ) (ws : List (ℕ × Card)) (id : ℕ) → is_named before id ≡ false →
    is_among (keys_of ws) id ≡ false → is_named (youngest_of before ws) id ≡ false
last_apart before [] id b a = b
last_apart before (w ∷ ws) id b a =
    let parts = or_parts (is_id id w.0) (is_among (keys_of ws) id) a in
    last_apart (Some w.0) ws id parts.0 parts.1

first_apart : (ws : List (ℕ × Card)) (id : ℕ) → is_among (keys_of ws) id ≡ false →
    is_named (oldest_of ws) id ≡ false
first_apart [] id a = refl
first_apart (w ∷ ws) id a = (or_parts (is_id id w.0) (is_among (keys_of ws) id) a).0

-- the entry that was found is that of the first
is_first : (before : Option ℕ) (w : ℕ × Card) (ws : List (ℕ × Card)) (id : ℕ) (e : Linked) →
    is_id id w.0 ≡ true → linked_at before (w ∷ ws) id ≡ Some e → e ≡ entry before w ws
is_first before w ws id e same found =
    let here : Some (entry before w ws) ≡ Some e =
    sym (cond-true (is_id id w.0) (Some (entry before w ws)) (linked_at (Some w.0) ws id) same)
    ∙ found in
    cc

-- or that of a later one
is_later : (before : Option ℕ) (w : ℕ × Card) (ws : List (ℕ × Card)) (id : ℕ) (e : Linked) →
    is_id id w.0 ≡ false → linked_at before (w ∷ ws) id ≡ Some e →
    linked_at (Some w.0) ws id ≡ Some e
is_later before w ws id e other found =
    sym (cond-false (is_id id w.0) (Some (entry before w ws)) (linked_at (Some w.0) ws id) other)
    ∙ found

-- an id that neither stands before nor waits is no neighbour
neighbours_apart : (before : Option ℕ) (ws : List (ℕ × Card)) (id other : ℕ) (e : Linked) →
    linked_at before ws id ≡ Some e → is_named before other ≡ false →
    is_among (keys_of ws) other ≡ false →
    (is_named e.older other ≡ false) × (is_named e.younger other ≡ false)
neighbours_apart before [] id other e found b a = absurd (cc)
neighbours_apart before (w ∷ ws) id other e found b a =
    let parts = or_parts (is_id other w.0) (is_among (keys_of ws) other) a in
    elim (cases_Bool (is_id id w.0)) [
      | inl s ↦ rw (is_first before w ws id e s found) (b, first_apart ws other parts.1)
      | inr s ↦ neighbours_apart (Some w.0) ws id other e (is_later before w ws id e s found)
          parts.0 parts.1
    ]

none_younger : (named younger : Option ℕ) (id : ℕ) → younger_given named younger id None ≡ None
none_younger named younger id = elim (cases_Bool (is_named named id)) [
  | inl e ↦ rw e refl
  | inr e ↦ rw e refl
]

none_older : (named older : Option ℕ) (id : ℕ) → older_given named older id None ≡ None
none_older named older id = elim (cases_Bool (is_named named id)) [
  | inl e ↦ rw e refl
  | inr e ↦ rw e refl
]

-- ---- one more at the end

grown : (before : Option ℕ) (w : ℕ × Card) (ws : List (ℕ × Card)) (id : ℕ) (card : Card)
    (other : ℕ) → is_id other w.0 ≡ true → is_among (keys_of ws) other ≡ false →
    younger_given (youngest_of (Some w.0) ws) (Some id) other (Some (entry before w ws))
    ≡ Some (entry before w (ws ++ (id, card) ∷ []))
grown before w [] id card other s a = rw s refl
grown before w (v ∷ vs) id card other s a =
    let parts = or_parts (is_id other v.0) (is_among (keys_of vs) other) a in
    cond-false (is_named (youngest_of (Some v.0) vs) other) _ _
    (last_apart (Some v.0) vs other parts.0 parts.1)

pub appended : (before : Option ℕ) (ws : List (ℕ × Card)) (id : ℕ) (card : Card) (other : ℕ) →
    is_among (keys_of ws) id ≡ false → IsDistinct nat_eq (keys_of ws) →
    is_named before id ≡ false →
    younger_given (youngest_of before ws) (Some id) other
    (put_at id card (youngest_of before ws) other (linked_at before ws other))
    ≡ linked_at before (ws ++ (id, card) ∷ []) other
unfolding IsDistinct
appended before [] id card other free distinct apart = elim (cases_Bool (is_id other id)) [
  | inl s ↦
      let unnamed : is_named before other ≡ false =
      ap (is_named before) (eqb-true other id s) ∙ apart in
      rw (s, unnamed) refl
  | inr s ↦ rw s (none_younger before (Some id) other)
]
appended before (w ∷ ws) id card other free distinct apart =
    let parts = or_parts (is_id id w.0) (is_among (keys_of ws) id) free in
    elim (cases_Bool (is_id other w.0)) [
      | inl s ↦
          let not_it : is_id other id ≡ false =
          ap (λ k. is_id k id) (eqb-true other w.0 s) ∙ turned id w.0 parts.0 in
          rw (not_it, s)
          (grown before w ws id card other s (past_first w ws other distinct.0 s))
      | inr s ↦ rw s (appended (Some w.0) ws id card other parts.1 distinct.1 parts.0)
    ]

pub youngest_after : (before : Option ℕ) (ws : List (ℕ × Card)) (w : ℕ × Card) →
    youngest_of before (ws ++ w ∷ []) ≡ Some w.0
youngest_after before [] w = refl
youngest_after before (v ∷ vs) w = youngest_after (Some v.0) vs w

youngest_some : (id : ℕ) (ws : List (ℕ × Card)) → is_none (youngest_of (Some id) ws) ≡ false
youngest_some id [] = refl
youngest_some id (w ∷ ws) = youngest_some w.0 ws

pub oldest_after : (ws : List (ℕ × Card)) (w : ℕ × Card) →
    oldest_of (ws ++ w ∷ []) ≡ cond (is_none (youngest_of None ws)) (Some w.0) (oldest_of ws)
oldest_after [] w = refl
oldest_after (v ∷ vs) w =
    sym (cond-false (is_none (youngest_of (Some v.0) vs)) _ _ (youngest_some v.0 vs))

-- ---- one out of the middle

-- what came behind the first comes behind what stands before it
handed_on : (before : Option ℕ) (first : ℕ) (ws : List (ℕ × Card)) (other : ℕ) →
    older_given (oldest_of ws) before other (linked_at (Some first) ws other)
    ≡ linked_at before ws other
handed_on before first [] other = refl
handed_on before first (w ∷ ws) other = elim (cases_Bool (is_id other w.0)) [
  | inl e ↦ rw e refl
  | inr e ↦ rw e refl
]

-- what stands before has no entry in the list
passed_over : (before younger : Option ℕ) (w : ℕ × Card) (ws : List (ℕ × Card)) (other : ℕ) →
    ((k : ℕ) → is_named before k ≡ true → is_among (keys_of (w ∷ ws)) k ≡ false) →
    younger_given before younger other (linked_at (Some w.0) ws other)
    ≡ linked_at (Some w.0) ws other
passed_over before younger w ws other apart = elim (cases_Bool (is_named before other)) [
  | inl n ↦
      let parts = or_parts (is_id other w.0) (is_among (keys_of ws) other) (apart other n) in
      let nothing : linked_at (Some w.0) ws other ≡ None =
      none_linked (Some w.0) ws other parts.1 in
      ap (younger_given before younger other) nothing
      ∙ none_younger before younger other ∙ sym nothing
  | inr n ↦ cond-false (is_named before other) _ _ n
]

first_gone : (before : Option ℕ) (w : ℕ × Card) (ws : List (ℕ × Card)) (id other : ℕ) →
    IsDistinct nat_eq (keys_of (w ∷ ws)) →
    ((k : ℕ) → is_named before k ≡ true → is_among (keys_of (w ∷ ws)) k ≡ false) → id ≡ w.0 →
    older_given (oldest_of ws) before other
    (younger_given before (oldest_of ws) other
    (gone_at id other (linked_at before (w ∷ ws) other)))
    ≡ linked_at before ws other
unfolding IsDistinct
first_gone before w ws id other distinct apart same =
    elim (cases_Bool (is_id other w.0)) [
      | inl s ↦
          let it : is_id other id ≡ true = ap (λ k. is_id other k) same ∙ s in
          rw it
          (ap (older_given (oldest_of ws) before other)
          (none_younger before (oldest_of ws) other) ∙ none_older (oldest_of ws) before other
          ∙ sym (none_linked before ws other (past_first w ws other distinct.0 s)))
      | inr s ↦
          let not_it : is_id other id ≡ false = ap (λ k. is_id other k) same ∙ s in
          rw (not_it, s)
          (ap (older_given (oldest_of ws) before other)
          (passed_over before (oldest_of ws) w ws other apart)
          ∙ handed_on before w.0 ws other)
    ]

kept_before : (before : Option ℕ) (w : ℕ × Card) (ws : List (ℕ × Card)) (id other : ℕ)
    (e : Linked) → is_id other w.0 ≡ true → is_among (keys_of ws) other ≡ false →
    linked_at (Some w.0) ws id ≡ Some e →
    older_given e.younger e.older other
    (younger_given e.older e.younger other (Some (entry before w ws)))
    ≡ Some (entry before w (remove_entry (is_id id) ws))
kept_before before w [] id other e it a found = absurd (cc)
kept_before before w (v ∷ vs) id other e it a found =
    let parts = or_parts (is_id other v.0) (is_among (keys_of vs) other) a in
    elim (cases_Bool (is_id id v.0)) [
      | inl s ↦ rw (is_first (Some w.0) v vs id e s found, s, it)
          (cond-false (is_named (oldest_of vs) other) _ _ (first_apart vs other parts.1))
      | inr s ↦
          let n = neighbours_apart (Some v.0) vs id other e
          (is_later (Some w.0) v vs id e s found) parts.0 parts.1 in
          rw (s, n.0, n.1) refl
    ]

pub removed : (before : Option ℕ) (ws : List (ℕ × Card)) (id other : ℕ) (e : Linked) →
    IsDistinct nat_eq (keys_of ws) →
    ((k : ℕ) → is_named before k ≡ true → is_among (keys_of ws) k ≡ false) →
    linked_at before ws id ≡ Some e →
    older_given e.younger e.older other
    (younger_given e.older e.younger other (gone_at id other (linked_at before ws other)))
    ≡ linked_at before (remove_entry (is_id id) ws) other
unfolding IsDistinct
removed before [] id other e distinct apart found = absurd (cc)
removed before (w ∷ ws) id other e distinct apart found = elim (cases_Bool (is_id id w.0)) [
  | inl s ↦ rw (is_first before w ws id e s found, s)
      (first_gone before w ws id other distinct apart (eqb-true id w.0 s))
  | inr s ↦
      let later : linked_at (Some w.0) ws id ≡ Some e = is_later before w ws id e s found in
      rw s (elim (cases_Bool (is_id other w.0)) [
        | inl t ↦
            let not_it : is_id other id ≡ false =
            ap (λ k. is_id k id) (eqb-true other w.0 t) ∙ turned id w.0 s in
            rw (not_it, t)
            (kept_before before w ws id other e t (past_first w ws other distinct.0 t) later)
        | inr t ↦ rw t (removed (Some w.0) ws id other e distinct.1
            (λ k. past_first w ws k distinct.0) later)
      ])
]

older_some : (before : ℕ) (ws : List (ℕ × Card)) (id : ℕ) (e : Linked) →
    linked_at (Some before) ws id ≡ Some e → is_none e.older ≡ false
older_some before [] id e found = absurd (cc)
older_some before (w ∷ ws) id e found = elim (cases_Bool (is_id id w.0)) [
  | inl s ↦ rw (is_first (Some before) w ws id e s found) refl
  | inr s ↦ older_some w.0 ws id e (is_later (Some before) w ws id e s found)
]

pub oldest_removed : (ws : List (ℕ × Card)) (id : ℕ) (e : Linked) →
    linked_at None ws id ≡ Some e →
    oldest_of (remove_entry (is_id id) ws) ≡ cond (is_none e.older) e.younger (oldest_of ws)
oldest_removed [] id e found = absurd (cc)
oldest_removed (w ∷ ws) id e found = elim (cases_Bool (is_id id w.0)) [
  | inl s ↦ rw (is_first None w ws id e s found, s) refl
  | inr s ↦ rw (s, older_some w.0 ws id e (is_later None w ws id e s found)) refl
]

one_before : (before : Option ℕ) (w : ℕ × Card) (ws : List (ℕ × Card)) →
    youngest_of before ws ≡ cond (is_none (oldest_of ws)) before (youngest_of (Some w.0) ws)
one_before before w [] = refl
one_before before w (v ∷ vs) = refl

pub youngest_removed : (before : Option ℕ) (ws : List (ℕ × Card)) (id : ℕ) (e : Linked) →
    linked_at before ws id ≡ Some e →
    youngest_of before (remove_entry (is_id id) ws)
    ≡ cond (is_none e.younger) e.older (youngest_of before ws)
youngest_removed before [] id e found = absurd (cc)
youngest_removed before (w ∷ ws) id e found = elim (cases_Bool (is_id id w.0)) [
  | inl s ↦ rw (is_first before w ws id e s found, s) (one_before before w ws)
  | inr s ↦ rw s (youngest_removed (Some w.0) ws id e (is_later before w ws id e s found))
]

pub one_fewer_left : (before : Option ℕ) (ws : List (ℕ × Card)) (id : ℕ) (e : Linked) →
    linked_at before ws id ≡ Some e → length (remove_entry (is_id id) ws) + 1 ≡ length ws
one_fewer_left before [] id e found = absurd (cc)
one_fewer_left before (w ∷ ws) id e found = elim (cases_Bool (is_id id w.0)) [
  | inl s ↦ rw s (omega arith)
  | inr s ↦ rw s
      (omega (arith, one_fewer_left (Some w.0) ws id e (is_later before w ws id e s found)))
]

-- ---- followed

-- what holds of each that waits holds of the first,
first_each : (m : Entries) (before : Option ℕ) (w : ℕ × Card) (ws : List (ℕ × Card)) →
    ((id : ℕ) → is_among (keys_of (w ∷ ws)) id ≡ true →
    entry_at m id ≡ linked_at before (w ∷ ws) id) →
    entry_at m w.0 ≡ Some (entry before w ws)
first_each m before w ws each =
    each w.0 (or_left (is_id w.0 w.0) (is_among (keys_of ws) w.0) it)
    ∙ cond-true (is_id w.0 w.0) _ _ it
  where
    it : is_id w.0 w.0 ≡ true
    it = eq-eqb w.0 w.0 refl

-- and of each later one
later_each : (m : Entries) (before : Option ℕ) (w : ℕ × Card) (ws : List (ℕ × Card)) →
    IsDistinct nat_eq (keys_of (w ∷ ws)) →
    ((id : ℕ) → is_among (keys_of (w ∷ ws)) id ≡ true →
    entry_at m id ≡ linked_at before (w ∷ ws) id) →
    (id : ℕ) → is_among (keys_of ws) id ≡ true → entry_at m id ≡ linked_at (Some w.0) ws id
unfolding IsDistinct
later_each m before w ws distinct each id among =
    each id (or_right (is_id id w.0) (is_among (keys_of ws) id) among)
    ∙ cond-false (is_id id w.0) _ _ (not_first w ws id distinct.0 among)

pub followed_is : (m : Entries) (before : Option ℕ) (ws : List (ℕ × Card)) →
    IsDistinct nat_eq (keys_of ws) →
    ((id : ℕ) → is_among (keys_of ws) id ≡ true → entry_at m id ≡ linked_at before ws id) →
    followed (length ws) m (oldest_of ws) ≡ ws
unfolding IsDistinct
followed_is m before [] distinct each = refl
followed_is m before (w ∷ ws) distinct each =
    ap (and_then w.0 (λ (l : Linked). followed (length ws) m l.younger))
    (first_each m before w ws each)
    ∙ ap (λ vs. w ∷ vs)
    (followed_is m (Some w.0) ws distinct.1 (later_each m before w ws distinct each))

pub viewed : (m : Entries) (oldest youngest : Option ℕ) (ws : List (ℕ × Card)) →
    IsLinked m oldest youngest ws → followed (length m) m oldest ≡ ws
viewed m oldest youngest ws l =
    ap (λ n. followed n m oldest) l.as_many ∙ ap (followed (length ws) m) l.first
    ∙ followed_is m None ws l.apart (λ id among. l.each id)

pub whole : (m : Entries) (oldest youngest : Option ℕ) (ws : List (ℕ × Card)) →
    IsLinked m oldest youngest ws →
    IsLinked m oldest youngest (followed (length m) m oldest)
whole m oldest youngest ws l =
    subst (IsLinked m oldest youngest) (sym (viewed m oldest youngest ws l)) l

-- back from the youngest, and on from what stands before the list
back_is : (m : Entries) (before : Option ℕ) (ws : List (ℕ × Card)) (more : ℕ) →
    IsDistinct nat_eq (keys_of ws) →
    ((id : ℕ) → is_among (keys_of ws) id ≡ true → entry_at m id ≡ linked_at before ws id) →
    followed_back (length ws + more) m (youngest_of before ws)
    ≡ reverse ws ++ followed_back more m before
unfolding IsDistinct
back_is m before [] more distinct each = ap (λ n. followed_back n m before) (zero-add more)
back_is m before (w ∷ ws) more distinct each =
    ap (λ n. followed_back n m (youngest_of (Some w.0) ws)) fuel
    ∙ back_is m (Some w.0) ws (suc more) distinct.1 (later_each m before w ws distinct each)
    ∙ ap (λ vs. reverse ws ++ vs)
    (ap (and_then w.0 (λ (l : Linked). followed_back more m l.older))
    (first_each m before w ws each))
    ∙ sym (append_assoc (reverse ws) (w ∷ []) (followed_back more m before))
    ∙ ap (λ vs. vs ++ followed_back more m before) (sym (reverse-append (w ∷ []) ws))
  where
    fuel : length (w ∷ ws) + more ≡ length ws + suc more
    fuel = omega arith

pub viewed_back : (m : Entries) (oldest youngest : Option ℕ) (ws : List (ℕ × Card)) →
    IsLinked m oldest youngest ws → followed_back (length m) m youngest ≡ reverse ws
viewed_back m oldest youngest ws l =
    ap (λ n. followed_back n m youngest) enough
    ∙ ap (followed_back (length ws + 0) m) l.last
    ∙ back_is m None ws 0 l.apart (λ id among. l.each id)
    ∙ append-nil (reverse ws)
  where
    enough : length m ≡ length ws + 0
    enough = omega (arith, l.as_many)

-- ---- one step

among_left : (ws rest : List (ℕ × Card)) (w : ℕ × Card) (n : ℕ) → drop n ws ≡ w ∷ rest →
    is_among (keys_of ws) w.0 ≡ true
among_left [] rest w zero e = absurd (cc)
among_left [] rest w (suc n) e = absurd (cc)
among_left (v ∷ vs) rest w zero e =
    let same : v ≡ w = cc in
    or_left (is_id w.0 v.0) (is_among (keys_of vs) w.0)
    (eq-eqb w.0 v.0 (ap (λ (x : ℕ × Card). x.0) (sym same)))
among_left (v ∷ vs) rest w (suc n) e =
    or_right (is_id w.0 v.0) (is_among (keys_of vs) w.0) (among_left vs rest w n e)

-- the entry of one that stands somewhere in the list names the one behind it
pub steps_on : (before : Option ℕ) (ws rest : List (ℕ × Card)) (w : ℕ × Card) (n : ℕ) →
    IsDistinct nat_eq (keys_of ws) → drop n ws ≡ w ∷ rest →
    option_map (λ (e : Linked). e.younger) (linked_at before ws w.0) ≡ Some (oldest_of rest)
unfolding IsDistinct
steps_on before [] rest w zero distinct e = absurd (cc)
steps_on before [] rest w (suc n) distinct e = absurd (cc)
steps_on before (v ∷ vs) rest w zero distinct e =
    let same : v ≡ w = cc in
    let others : vs ≡ rest = cc in
    ap (option_map (λ (l : Linked). l.younger))
    (cond-true (is_id w.0 v.0) (Some (entry before v vs)) (linked_at (Some v.0) vs w.0)
    (eq-eqb w.0 v.0 (ap (λ (x : ℕ × Card). x.0) (sym same))))
    ∙ ap (λ xs. Some (oldest_of xs)) others
steps_on before (v ∷ vs) rest w (suc n) distinct e =
    let other : is_id w.0 v.0 ≡ false =
    not_first v vs w.0 distinct.0 (among_left vs rest w n e) in
    rw other (steps_on (Some v.0) vs rest w n distinct.1 e)
