-- The share of a batch: what stands first, and what a batch makes of it.
use Rattle.std.proofs.Common.{◌≡◌, ◌≤◌, ◌<◌, ℕ, suc, ◌+◌, ◌-◌, ◌%◌, ◌/◌, List, [], ◌∷◌, ◌++◌}
use Rattle.std.proofs.Common.{length, take, drop}
use Rattle.std.proofs.Common.{true, false, cond, refl, sym, ap, ◌∙◌, arith, inl, inr, ◌⊎◌}
use Rattle.std.proofs.lemmas.Bool.{cases_Bool, ltb-true, ltb-false, lt-ltb, and_parts}
use Rattle.std.proofs.lemmas.List.Elements.{All-from_recursion, recursion_from_All}
use Rattle.std.proofs.lemmas.List.{take-append-drop}
use Rattle.std.specs.List.{AllByRecursion}
use Rattle.std.specs.Prelude.{filter, not, nat_lt, ◌&&◌}
use Rattle.packet_entry.specs.declared.packet.Card.{Card}
use Rattle.queue_core.specs.Ids.{after}
use Rattle.queue_core.specs.Numbers.{id_count}
use Rattle.queue_core.specs.Share.{share, distance, AscendFrom, AreIds, IsLongestBefore}

-- and goes on where it isn't
pub share_goes_on : (ws more : List (ℕ × Card)) (w : ℕ × Card) (m : ℕ) → ws ≡ w ∷ more →
    after w.0 m ≡ false → length (share ws m) ≡ suc (length (share more m))
share_goes_on ws more w m front not_after =
    ap (λ vs. length (share vs m)) front
    ∙ ap (λ b. length (cond b [] (w ∷ share more m))) not_after

pub share_within : (ws : List (ℕ × Card)) (m : ℕ) → length (share ws m) ≤ length ws
share_within [] m = omega arith
share_within (w ∷ ws) m = elim (cases_Bool (after w.0 m)) [
  | inl e ↦ rw e (omega arith)
  | inr e ↦ rw e (omega (arith, share_within ws m))
]

-- the share is the first of those that wait
pub share_first : (ws : List (ℕ × Card)) (m : ℕ) → take (length (share ws m)) ws ≡ share ws m
share_first [] m = refl
share_first (w ∷ ws) m = elim (cases_Bool (after w.0 m)) [
  | inl e ↦ rw e refl
  | inr e ↦ rw e (ap (λ vs. w ∷ vs) (share_first ws m))
]

pub one_fewer : (ws more : List (ℕ × Card)) (w : ℕ × Card) → ws ≡ w ∷ more →
    length ws ≡ suc (length more)
one_fewer ws more w front = ap (λ (vs : List (ℕ × Card)). length vs) front

-- ---- the longest list without an id after the maximum

none_after : (ws : List (ℕ × Card)) (m : ℕ) →
    AllByRecursion (λ (w : ℕ × Card). after w.0 m ≡ false) (share ws m)
none_after [] m = tt
none_after (w ∷ ws) m = elim (cases_Bool (after w.0 m)) [
  | inl e ↦ rw e tt
  | inr e ↦ rw e (e, none_after ws m)
]

no_longer : (ws other rest : List (ℕ × Card)) (m : ℕ) → ws ≡ other ++ rest →
    AllByRecursion (λ (w : ℕ × Card). after w.0 m ≡ false) other →
    length other ≤ length (share ws m)
no_longer ws [] rest m e h = omega arith
no_longer [] (o ∷ os) rest m e h = absurd (cc)
no_longer (w ∷ ws) (o ∷ os) rest m e h =
    let same : w ≡ o = cc in
    let others : ws ≡ os ++ rest = cc in
    let not_after : after w.0 m ≡ false = ap (λ (v : ℕ × Card). after v.0 m) same ∙ h.0 in
    rw not_after (omega (arith, no_longer ws os rest m others h.1))

pub longest : (ws : List (ℕ × Card)) (m : ℕ) → IsLongestBefore ws m (share ws m)
longest ws m = record {
  before = record {
    rest = drop (length (share ws m)) ws;
    is_first = sym (take-append-drop (length (share ws m)) ws)
        ∙ ap (λ vs. vs ++ drop (length (share ws m)) ws) (share_first ws m);
    none_after = All-from_recursion _ (share ws m) (none_after ws m);
  };
  longest = λ other b.
      no_longer ws other b.rest m b.is_first (recursion_from_All _ other b.none_after);
}

-- ---- ids that ascend

abbrev half : ℕ
half = id_count / 2

not_after_is : (id m : ℕ) → after id m ≡ false →
    ((id + id_count - m) % id_count ≡ 0) ⊎ (half ≤ (id + id_count - m) % id_count)
not_after_is id m h =
    elim (cases_Bool (nat_lt 0 ((id + id_count - m) % id_count))) [
      | inr none ↦ inl (omega (arith, ltb-false 0 ((id + id_count - m) % id_count) none))
      | inl some ↦ inr (ltb-false ((id + id_count - m) % id_count) half
          (ap (λ b. b && nat_lt ((id + id_count - m) % id_count) half) (sym some) ∙ h))
    ]

after_is : (id m : ℕ) → after id m ≡ true →
    (0 < (id + id_count - m) % id_count) × ((id + id_count - m) % id_count < half)
after_is id m h =
    let parts = and_parts (nat_lt 0 ((id + id_count - m) % id_count))
    (nat_lt ((id + id_count - m) % id_count) half) h in
    (ltb-true 0 _ parts.0, ltb-true _ half parts.1)

is_after : (id m : ℕ) → 0 < (id + id_count - m) % id_count →
    (id + id_count - m) % id_count < half → after id m ≡ true
is_after id m some short = rw (lt-ltb _ _ some, lt-ltb _ _ short) refl

-- from an id that is after the maximum on, each that is farther from the first is after it too
farther : (first id next m : ℕ) → first < id_count → id < id_count → next < id_count →
    m < id_count → after first m ≡ false → after id m ≡ true → distance first id < half →
    distance first id ≤ distance first next → distance first next < half → after next m ≡ true
farther first id next m f i n k not_after is near order nearer =
    let a = after_is id m is in
    elim (not_after_is first m not_after) [
      | inl same ↦ is_after next m (omega (arith, same, a.0, a.1, near, order, nearer))
          (omega (arith, same, a.0, a.1, near, order, nearer))
      | inr far ↦ is_after next m (omega (arith, far, a.0, a.1, near, order, nearer))
          (omega (arith, far, a.0, a.1, near, order, nearer))
    ]

-- so nothing is left of them
none_left : (first id : ℕ) (ws : List (ℕ × Card)) (m : ℕ) → first < id_count → id < id_count →
    m < id_count → after first m ≡ false → after id m ≡ true → distance first id < half →
    AreIds ws → AscendFrom first (distance first id) ws →
    filter (λ (w : ℕ × Card). not (after w.0 m)) ws ≡ []
none_left first id [] m f i k not_after is near ids ascend = refl
none_left first id (w ∷ ws) m f i k not_after is near ids ascend =
    let next : after w.0 m ≡ true =
    farther first id w.0 m f i ids.0 k not_after is near ascend.0 ascend.1 in
    rw next (none_left first w.0 ws m f ids.0 k not_after next ascend.1 ids.1 ascend.2)

kept : (first least : ℕ) (ws : List (ℕ × Card)) (m : ℕ) → first < id_count → m < id_count →
    after first m ≡ false → AreIds ws → AscendFrom first least ws →
    share ws m ≡ filter (λ (w : ℕ × Card). not (after w.0 m)) ws
kept first least [] m f k not_after ids ascend = refl
kept first least (w ∷ ws) m f k not_after ids ascend =
    elim (cases_Bool (after w.0 m)) [
      | inl e ↦ rw e (sym (none_left first w.0 ws m f ids.0 k not_after e ascend.1 ids.1
          ascend.2))
      | inr e ↦ rw e (ap (λ vs. w ∷ vs)
          (kept first (distance first w.0) ws m f k not_after ids.1 ascend.2))
    ]

pub ascending : (first : ℕ × Card) (others : List (ℕ × Card)) (m : ℕ) → m < id_count →
    AreIds (first ∷ others) → after first.0 m ≡ false → AscendFrom first.0 0 (first ∷ others) →
    share (first ∷ others) m ≡ filter (λ (w : ℕ × Card). not (after w.0 m)) (first ∷ others)
ascending first others m k ids not_after ascend =
    kept first.0 0 (first ∷ others) m ids.0 k not_after ids ascend
