-- Rows have the whole of each lock together, wherever each of them stands.
use Rattle.std.proofs.Common.{◌≡◌, ◌<◌, ◌∙◌, ◌++◌, ◌∷◌, [], ℕ, zero, suc, List, Option, Some}
use Rattle.std.proofs.Common.{None, ap, append-nil, append_assoc, arith, length, map, refl, sym}
use Rattle.std.proofs.Common.{true}
use Rattle.std.specs.Prelude.{slice_get, slice_index_or}
use Rattle.std.proofs.lemmas.List.{map-append}
use Rattle.turn_lock.specs.Parts.{Empty, Tree, is_normal, union}
use Rattle.place_rows.specs.Joining.{part_in, together_at}
use Rattle.place_rows.specs.Lists.{Every}
use Rattle.place_rows.specs.Rows.{Known}
use Rattle.plane.specs.declared.plane.Plane.{Plane}
use Rattle.plane.specs.Opening.{all_rows, known_in}
use Rattle.plane.specs.Passes.{FeederView, IsFeederOf, IsPortOf, PortView}
use Rattle.place_turns.specs.Trails.{parts_of}

-- ---- facts of each

module _ {X : Type 0} (P : X → Type 0) where
  pub every_both : (xs ys : List X) → Every P xs → Every P ys → Every P (xs ++ ys)
  every_both [] ys one two = two
  every_both (x ∷ xs) ys one two = (one.0, every_both xs ys one.1 two)

  pub every_put : (front : List X) (x y : X) (back : List X) → P y → Every P (front ++ x ∷ back) →
      Every P (front ++ y ∷ back)
  every_put [] x y back is all = (is, all.1)
  every_put (a ∷ front) x y back is all = (all.0, every_put front x y back is all.1)

  pub every_out : (front : List X) (x : X) (back : List X) → Every P (front ++ x ∷ back) →
      Every P (front ++ back)
  every_out [] x back all = all.1
  every_out (a ∷ front) x back all = (all.0, every_out front x back all.1)

  pub every_at : (front : List X) (x : X) (back : List X) → Every P (front ++ x ∷ back) → P x
  every_at [] x back all = all.0
  every_at (a ∷ front) x back all = every_at front x back all.1

  pub every_front : (front back : List X) → Every P (front ++ back) → Every P front
  every_front [] back all = tt
  every_front (a ∷ front) back all = (all.0, every_front front back all.1)

module _ {X : Type 0} (P : X → Type 0) where
  pub every_index : (xs : List X) (i : ℕ) (d : X) → Every P xs → i < length xs →
      P (slice_index_or xs i d)
  every_index [] i d all less = absurd (omega (arith, less))
  every_index (x ∷ xs) zero d all less = all.0
  every_index (x ∷ xs) (suc i) d all less =
      let more : suc i < suc (length xs) = less in
      every_index xs i d all.1 (omega (arith, more))

pub every_so : {X : Type 0} (P Q : X → Type 0) → ((x : X) → P x → Q x) → (xs : List X) →
    Every P xs → Every Q xs
every_so P Q so [] all = tt
every_so P Q so (x ∷ xs) all = (so x all.0, every_so P Q so xs all.1)

-- ---- parts

-- the part with this number
nth : List Tree → ℕ → Tree
nth [] k = Empty
nth (t ∷ ts) zero = t
nth (t ∷ ts) (suc k) = nth ts k

is_nth : (known : List Known) (k : ℕ) → part_in (slice_get known k) ≡ nth (parts_of known) k
unfolding nth
is_nth [] k = refl
is_nth (v ∷ known) zero = refl
is_nth (v ∷ known) (suc k) = is_nth known k

pub same_part : (old new : List Known) (k : ℕ) → parts_of new ≡ parts_of old →
    part_in (slice_get new k) ≡ part_in (slice_get old k)
same_part old new k parts =
    is_nth new k ∙ ap (λ (ts : List Tree). nth ts k) parts ∙ sym (is_nth old k)

-- the part of a row at a place
abbrev pub part_at : ℕ → List Known → Tree
part_at k known = part_in (slice_get known k)

-- it is in normal form
abbrev pub IsNormalAt : ℕ → PortView → Type 0
IsNormalAt k p = is_normal (part_at k p.trail.known) ≡ true

pub port_normal : (plane : Plane) (k : ℕ) (p : PortView) → IsPortOf plane p → IsNormalAt k p
port_normal plane k p of = by (slice_get p.trail.known k) refl
  where
    by : (o : Option Known) → slice_get p.trail.known k ≡ o → is_normal (part_in o) ≡ true
    by None is = refl
    by (Some v) is = (of.of.known_so k v is).normal

pub feeder_normal : (plane : Plane) (k : ℕ) (p : FeederView) → IsFeederOf plane p →
    is_normal (part_at k p.trail.known) ≡ true
feeder_normal plane k p of = by (slice_get p.trail.known k) refl
  where
    by : (o : Option Known) → slice_get p.trail.known k ≡ o → is_normal (part_in o) ≡ true
    by None is = refl
    by (Some v) is = (of.of.known_so k v is).normal

-- ---- in any order

pub record UnionLaws : Type 0 where
  pub sides : (p q : Tree) → is_normal p ≡ true → is_normal q ≡ true → union p q ≡ union q p
  pub order : (p q r : Tree) → is_normal p ≡ true → is_normal q ≡ true → is_normal r ≡ true →
      union (union p q) r ≡ union p (union q r)
  pub normal : (p q : Tree) → is_normal p ≡ true → is_normal q ≡ true →
      is_normal (union p q) ≡ true

module _ (laws : UnionLaws) (k : ℕ) where
  pub turned_round : (t p q : Tree) → is_normal t ≡ true → is_normal p ≡ true → is_normal q ≡ true →
      union (union t p) q ≡ union (union t q) p
  turned_round t p q first second third =
      laws.order t p q first second third
      ∙ ap (λ (u : Tree). union t u) (laws.sides p q second third)
      ∙ sym (laws.order t q p first third second)

  -- a row may stand in front
  first_of : (t : Tree) (front : List PortView) (x : PortView) (rest : List PortView) →
      is_normal t ≡ true → Every (IsNormalAt k) front → IsNormalAt k x →
      together_at k t (map known_in (front ++ x ∷ rest))
      ≡ together_at k (union t (part_at k x.trail.known)) (map known_in (front ++ rest))
  first_of t [] x rest normal all is = refl
  first_of t (p ∷ front) x rest normal all is =
      first_of (union t (part_at k p.trail.known)) front x rest
      (laws.normal t (part_at k p.trail.known) normal all.0) all.1 is
      ∙ ap (λ (u : Tree). together_at k u (map known_in (front ++ rest)))
      (turned_round t (part_at k p.trail.known) (part_at k x.trail.known) normal all.0 is)

  rows_of : (feeder : FeederView) (ports closed : List PortView) →
      together_at k Empty (all_rows feeder ports closed)
      ≡ together_at k (part_at k feeder.trail.known) (map known_in (ports ++ closed))
  rows_of feeder ports closed =
      ap (λ (rows : List (List Known)). together_at k (part_at k feeder.trail.known) rows)
      (sym (map-append known_in ports closed))

  -- a port that goes from the open ones to the closed ones
  pub moved_whole : (feeder : FeederView) (front : List PortView) (x y : PortView)
      (back closed : List PortView) → is_normal (part_at k feeder.trail.known) ≡ true →
      Every (IsNormalAt k) front → Every (IsNormalAt k) ((front ++ back) ++ closed) →
      IsNormalAt k x → IsNormalAt k y →
      part_at k y.trail.known ≡ part_at k x.trail.known →
      together_at k Empty (all_rows feeder (front ++ back) (closed ++ y ∷ []))
      ≡ together_at k Empty (all_rows feeder (front ++ x ∷ back) closed)
  moved_whole feeder front x y back closed normal in_front all its then_its same =
      let t = part_at k feeder.trail.known in
      let Rows : List PortView → Tree = λ ps. together_at k t (map known_in ps) in
      let others = (front ++ back) ++ closed in
      rows_of feeder (front ++ back) (closed ++ y ∷ [])
      ∙ ap Rows (sym (append_assoc (front ++ back) closed (y ∷ [])))
      ∙ first_of t others y [] normal all then_its
      ∙ ap (λ (ps : List PortView). together_at k (union t (part_at k y.trail.known))
      (map known_in ps)) (append-nil others ∙ append_assoc front back closed)
      ∙ ap (λ (u : Tree). together_at k (union t u) (map known_in (front ++ (back ++ closed)))) same
      ∙ sym (first_of t front x (back ++ closed) normal in_front its)
      ∙ ap Rows (sym (append_assoc front (x ∷ back) closed))
      ∙ sym (rows_of feeder (front ++ x ∷ back) closed)
