-- Rows that are split off others, and joined again: their balance, what they sent, and their parts.
use Rattle.std.proofs.Common.{◌≡◌, ◌+◌, ℕ, zero, suc, List, [], ◌∷◌, ◌++◌, length, refl, sym}
use Rattle.std.proofs.Common.{ap, ◌∙◌, subst, arith}
use Rattle.std.specs.Prelude.{map, slice_get, Option, Some, None, sum_by, option_map}
use Rattle.std.specs.Prelude.{true, false}
use mathlib.Core.List.{IsPrefix}
use Rattle.std.proofs.lemmas.List.Sums.{sum_by-cons}
use Rattle.std.proofs.lemmas.Option.{slice_get_within, slice_get-map}
use Rattle.packet_entry.specs.declared.packet.Card.{Card}
use Rattle.turn_lock.specs.Parts.{Tree, Empty, union, cut, kept, void, is_normal}
use Rattle.turn_lock.specs.Places.{longer}
use Rattle.turn_lock.specs.Views.{HasSeenOwn, kept_view, split_view}
use Rattle.histories.specs.declared.entry.Entry.{Entry}
use Rattle.histories.specs.declared.histories.Lost.{Lost}
use Rattle.histories.specs.History.{AreLegal}
use Rattle.histories.specs.Journeys.{Arrival, IsSoundBut}
use Rattle.histories.specs.Moves.{Move}
use Rattle.packet_moves.specs.declared.setting.Setting.{Setting}
use Rattle.locked_place.specs.Points.{points, points_after}
use Rattle.place_rows.specs.Joining.{Joins, RowJoined, part_in, together_at}
use Rattle.place_rows.specs.Rows.{Known}
use Rattle.place_rows.specs.Shares.{at_places, own_moves, all_moves, IsBalancedBut}
use Rattle.place_rows.specs.Shares.{notices_at, sent_at, sent_in}
use Rattle.place_rows.proofs.Lists.{one_item, item_at}
use Rattle.place_rows.proofs.RowBalance.{rows_weigh}
use Rattle.place_rows.proofs.ItemSums.{at_longer, merged_weighs, points_longer, points_long}

-- ---- splitting

-- what each pass of a row makes is known of each pass that is made
mapped_each : (f : Known → Known) (P : Known → Type 0) (known : List Known) →
    ((v : Known) (k : ℕ) → slice_get known k ≡ Some v → P (f v)) →
    (k : ℕ) (w : Known) → slice_get (map f known) k ≡ Some w → P w
mapped_each f P [] each k w at = absurd (cc at)
mapped_each f P (v ∷ known) each zero w at = subst P (one_item (f v) w at) (each v 0 refl)
mapped_each f P (v ∷ known) each (suc k) w at =
    mapped_each f P known (λ x j has. each x (suc j) has) k w at

kept_moves : (known : List Known) → all_moves (map kept_view known) ≡ all_moves known
kept_moves [] = refl
kept_moves (v ∷ known) = ap (λ (ms : List Move). own_moves v ++ ms) (kept_moves known)

split_moves : (known : List Known) → all_moves (map split_view known) ≡ []
split_moves [] = refl
split_moves (v ∷ known) = split_moves known

pub kept_balanced : (s : Setting) (owed : List Arrival) (entered : List Card)
    (known : List Known) (lost : List Lost) → IsBalancedBut s owed entered known lost →
    IsBalancedBut s owed entered (map kept_view known) lost
kept_balanced s owed entered known lost is = record {
  legal = mapped_each kept_view (λ w. AreLegal w.seen) known (λ v k at. is.legal k v at);
  placed = mapped_each kept_view (λ w. HasSeenOwn w) known (λ v k at. is.placed k v at);
  sound = subst (λ (ms : List Move). IsSoundBut s.tables s.key owed entered ms lost)
      (sym (kept_moves known)) is.sound;
}

pub split_balanced : (s : Setting) (owed : List Arrival) (entered : List Card)
    (known : List Known) (lost : List Lost) → IsBalancedBut s [] [] [] [] →
    IsBalancedBut s owed entered known lost → IsBalancedBut s [] [] (map split_view known) []
split_balanced s owed entered known lost none is = record {
  legal = mapped_each split_view (λ w. AreLegal w.seen) known (λ v k at. is.legal k v at);
  placed = mapped_each split_view (λ w. HasSeenOwn w) known (λ v k at. tt);
  sound = subst (λ (ms : List Move). IsSoundBut s.tables s.key [] [] ms [])
      (sym (split_moves known)) none.sound;
}

pub split_sent : (port : ℕ) (known : List Known) → sent_in port (map split_view known) ≡ 0
split_sent port [] = refl
split_sent port (v ∷ known) =
    omega (
      arith,
      sum_by-cons (sent_at port) (split_view v) (map split_view known),
      split_sent port known,
      none_here,
    )
  where
    none_here : sent_at port (split_view v) ≡ 0
    none_here = refl

-- ---- parts

-- the two pieces of a part, where there is one
pub split_parts : ((p : Tree) → is_normal p ≡ true → void p ≡ false → union (kept p) (cut p) ≡ p) →
    (k : ℕ) (known : List Known) (rows : List (List Known)) →
    ((j : ℕ) (v : Known) → slice_get known j ≡ Some v →
    (is_normal v.part ≡ true) × (void v.part ≡ false)) →
    together_at k Empty (map kept_view known ∷ map split_view known ∷ rows)
    ≡ together_at k Empty (known ∷ rows)
split_parts back k known rows all =
    ap (λ (t : Tree). together_at k t rows)
    (ap (λ (o : Option Known). union (part_in o) (part_in (slice_get (map split_view known) k)))
    (slice_get-map kept_view known k)
    ∙ ap (λ (o : Option Known). union (part_in (option_map kept_view (slice_get known k)))
    (part_in o)) (slice_get-map split_view known k)
    ∙ both (slice_get known k) (all k))
  where
    both : (o : Option Known) → ((v : Known) → o ≡ Some v →
        (is_normal v.part ≡ true) × (void v.part ≡ false)) →
        union (part_in (option_map kept_view o)) (part_in (option_map split_view o)) ≡ part_in o
    both None here = refl
    both (Some v) here = back v.part (here v refl).0 (here v refl).1

-- ---- joining

-- what its own entries sent, in a longer list
sent_longer : (port : ℕ) (v : Known) (list : List Entry) → HasSeenOwn v → IsPrefix v.seen list →
    sum_by (notices_at port) (at_places (points list) v.own) ≡ sent_at port v
sent_longer port v list placed begins =
    ap (sum_by (notices_at port))
    (ap (λ (es : List Entry). at_places (points es) v.own) (sym begins.1)
    ∙ ap (λ (ps : List _). at_places ps v.own) (points_longer [] v.seen begins.0)
    ∙ at_longer (points v.seen) (points_after v.seen begins.0) 0 (length v.seen) v.own placed
    (omega (arith, points_long [] v.seen)))

pub joined_sent : (port : ℕ) (v w after : Known) → HasSeenOwn v → HasSeenOwn w →
    Joins w v after → sent_at port after ≡ sent_at port v + sent_at port w
joined_sent port v w after one two joins =
    let is = joins.is in
    omega (
      arith,
      ap (λ (x : Known). sent_at port x) is,
      merged_weighs (notices_at port) (points (longer v.seen w.seen)) v.own w.own,
      sent_longer port v (longer v.seen w.seen) one
          (subst (λ (x : Known). IsPrefix v.seen x.seen) is joins.first),
      sent_longer port w (longer v.seen w.seen) two
          (subst (λ (x : Known). IsPrefix w.seen x.seen) is joins.second),
    )

pub rows_sent : (port : ℕ) (intos froms afters : List Known) →
    ((k : ℕ) (v : Known) → slice_get intos k ≡ Some v → HasSeenOwn v) →
    ((k : ℕ) (v : Known) → slice_get froms k ≡ Some v → HasSeenOwn v) →
    RowJoined 0 intos froms afters →
    sent_in port afters ≡ sent_in port intos + sent_in port froms
rows_sent port intos froms afters one two row =
    rows_weigh (sent_at port) intos froms afters row.both row.as_many
    (λ k v w u at also there.
    let done = row.done k v w (omega arith) at also in
    joined_sent port v w u (one k v at) (two k w also)
    (subst (Joins w v) (one_item done.after u (sym done.at ∙ there)) done.turns))

pub joined_parts : (k : ℕ) (intos froms afters : List Known) (rows : List (List Known)) →
    RowJoined 0 intos froms afters →
    together_at k Empty (afters ∷ rows) ≡ together_at k Empty (intos ∷ froms ∷ rows)
joined_parts k intos froms afters rows row =
    ap (λ (t : Tree). together_at k t rows)
    (inner (slice_get intos k) refl (slice_get froms k) refl (slice_get afters k) refl)
  where
    inner : (i : Option Known) → slice_get intos k ≡ i → (f : Option Known) →
        slice_get froms k ≡ f → (a : Option Known) → slice_get afters k ≡ a →
        part_in a ≡ union (part_in i) (part_in f)
    inner None i_is None f_is None a_is = refl
    inner None i_is None f_is (Some u) a_is =
        let v = item_at intos k
        (omega (arith, slice_get_within afters k u a_is, row.as_many)) in
        let none : None ≡ Some v.0 = sym i_is ∙ v.1 in
        absurd (cc none)
    inner None i_is (Some w) f_is a a_is =
        let v = item_at intos k
        (omega (arith, slice_get_within froms k w f_is, row.both)) in
        let none : None ≡ Some v.0 = sym i_is ∙ v.1 in
        absurd (cc none)
    inner (Some v) i_is None f_is a a_is =
        let w = item_at froms k
        (omega (arith, slice_get_within intos k v i_is, row.both)) in
        let none : None ≡ Some w.0 = sym f_is ∙ w.1 in
        absurd (cc none)
    inner (Some v) i_is (Some w) f_is a a_is =
        let done = row.done k v w (omega arith) i_is f_is in
        ap part_in (sym a_is ∙ done.at) ∙ ap (λ (x : Known). x.part) done.turns.is
