-- Rows stay balanced.
use Rattle.std.proofs.Common.{◌≡◌, ◌+◌, ℕ, suc, List, [], ◌∷◌, ◌++◌, length, refl, sym}
use Rattle.std.proofs.Common.{ap}
use Rattle.std.proofs.Common.{◌∙◌, subst, arith, inl, inr, append-nil, cond}
use Rattle.std.specs.Prelude.{slice_get, slice_set, Some, sum_by, count_by, nat_eq, nat_lt, ◌==◌}
use mathlib.Core.List.{IsPrefix}
use Rattle.std.proofs.lemmas.List.Sums.{sum_by-append, sum_by-cons, sum_by-set}
use Rattle.std.proofs.lemmas.Option.{slice_get_within, get_or_from_slice_get}
use Rattle.std.proofs.lemmas.Bool.{cases_Bool, eqb-true, eqb-false}
use Rattle.packet_entry.specs.declared.packet.Card.{Card}
use Rattle.hook_chain.specs.Rules.{RuleTables}
use Rattle.turn_lock.specs.Places.{Ascends, NoneInCommon, longer, merged}
use Rattle.turn_lock.specs.Views.{HasSeenOwn}
use Rattle.histories.specs.declared.entry.Entry.{Entry}
use Rattle.histories.specs.declared.histories.Lost.{Lost}
use Rattle.histories.specs.History.{AreLegal}
use Rattle.histories.specs.Moves.{Move, moves, moves_after}
use Rattle.histories.specs.Journeys.{Arrival, IsSoundBut, came, asks, visit_of, entering}
use Rattle.packet_moves.specs.declared.setting.Setting.{Setting}
use Rattle.locked_place.specs.Points.{points, points_after}
use Rattle.place_rows.specs.Joining.{Joins, RowJoined}
use Rattle.place_rows.specs.Rows.{Known, IsTurnAt}
use Rattle.place_rows.specs.Shares.{at_places, own_moves, all_moves, IsBalancedBut}
use Rattle.place_rows.specs.Shares.{notices_at, sent_at, sent_in}
use Rattle.place_rows.proofs.Lists.{one_item, item_at, get_same, get_other, placed_after}
use Rattle.place_rows.proofs.Lists.{placed_longer}
use Rattle.place_rows.proofs.ItemSums.{sum_flat, own_after, moves_longer, moves_long, at_longer}
use Rattle.place_rows.proofs.ItemSums.{merged_weighs}
use Rattle.place_rows.proofs.ItemSums.{points_longer, points_long}

-- moves with the same sums are equally sound
pub same_sound : (tables : RuleTables) (key : ℕ) (owed : List Arrival) (entered : List Card)
    (ms ns : List Move) (lost : List Lost) → ((f : Move → ℕ) → sum_by f ns ≡ sum_by f ms) →
    IsSoundBut tables key owed entered ms lost → IsSoundBut tables key owed entered ns lost
same_sound tables key owed entered ms ns lost same is = record {
  asked = λ test. omega (
    arith,
    is.asked test,
    same (λ m. count_by test (came m)),
    same (λ m. count_by test (asks tables key m)),
  );
  met = λ test. omega (
    arith,
    is.met test,
    same (λ m. count_by (λ a. test (visit_of a)) (came m)),
    same (λ m. count_by (λ a. test (visit_of a)) (asks tables key m)),
  );
  first = is.first;
}

-- sound moves of two rows
pub both_sound : (tables : RuleTables) (key : ℕ) (entered more : List Card) (ms ns : List Move)
    (lost gone : List Lost) → IsSoundBut tables key [] entered ms lost →
    IsSoundBut tables key [] more ns gone →
    IsSoundBut tables key [] (entered ++ more) (ms ++ ns) (lost ++ gone)
both_sound tables key entered more ms ns lost gone a b = record {
  asked = λ test. omega (
    arith,
    a.asked test,
    b.asked test,
    sum_by-append (λ m. count_by test (came m)) ms ns,
    sum_by-append (λ m. count_by test (asks tables key m)) ms ns,
    sum_by-append (λ c. count_by test (entering tables key c)) entered more,
  );
  met = λ test. omega (
    arith,
    a.met test,
    b.met test,
    sum_by-append (λ m. count_by (λ x. test (visit_of x)) (came m)) ms ns,
    sum_by-append (λ m. count_by (λ x. test (visit_of x)) (asks tables key m)) ms ns,
    sum_by-append (λ c. count_by (λ x. test (visit_of x)) (entering tables key c)) entered more,
    sum_by-append (λ (l : Lost). cond (test l) 1 0) lost gone,
  );
  first = omega (
    arith,
    a.first,
    b.first,
    sum_by-append (λ (l : Lost). cond (l.visit == 1) 1 0) lost gone,
  );
}

-- ---- one pass of a row takes a turn

-- what a row weighs together, where one pass weighs more
weighs_more : (h : Known → ℕ) (place more : ℕ) (vs ws : List Known) (v w : Known) →
    slice_get vs place ≡ Some v → ws ≡ slice_set vs place w → h w ≡ h v + more →
    sum_by h ws ≡ sum_by h vs + more
weighs_more h place more vs ws v w had has own =
    omega (
      arith,
      ap (sum_by h) has,
      sum_by-set h vs place w v (slice_get_within vs place v had),
      ap h (get_or_from_slice_get vs place v v had),
      own,
    )

-- the moves of a row, where one pass has moved these
sums_after : (place : ℕ) (vs ws : List Known) (v w : Known) (ms : List Move) →
    slice_get vs place ≡ Some v → ws ≡ slice_set vs place w → own_moves w ≡ own_moves v ++ ms →
    (f : Move → ℕ) → sum_by f (all_moves ws) ≡ sum_by f (all_moves vs ++ ms)
sums_after place vs ws v w ms had has own f =
    let h : Known → ℕ = λ x. sum_by f (own_moves x) in
    omega (
      arith,
      sum_flat f own_moves ws,
      sum_flat f own_moves vs,
      weighs_more h place (sum_by f ms) vs ws v w had has
          (ap (sum_by f) own ∙ sum_by-append f (own_moves v) ms),
      sum_by-append f (all_moves vs) ms,
    )

-- facts of each pass, where one has changed
pub each_set : (P : Known → Type 0) (place : ℕ) (vs ws : List Known) (v w : Known) →
    slice_get vs place ≡ Some v → ws ≡ slice_set vs place w →
    ((k : ℕ) (x : Known) → slice_get vs k ≡ Some x → P x) → P w →
    (k : ℕ) (x : Known) → slice_get ws k ≡ Some x → P x
each_set P place vs ws v w had has each new k x at =
    elim (cases_Bool (nat_eq k place)) [
      | inl same ↦ subst P
          (one_item w x
          (sym (get_same vs place w (slice_get_within vs place v had))
          ∙ ap (slice_get (slice_set vs place w)) (sym (eqb-true k place same))
          ∙ ap (λ (l : List Known). slice_get l k) (sym has) ∙ at)) new
      | inr other ↦ each k x
          (sym (get_other vs place k w (eqb-false k place other))
          ∙ ap (λ (l : List Known). slice_get l k) (sym has) ∙ at)
    ]

-- a turn whose moves are sound with the others
pub turned_sound : (s : Setting) (owed then_owed : List Arrival) (entered : List Card)
    (olds news : List Known) (lost : List Lost) (place : ℕ) (found fs : List Entry) →
    IsBalancedBut s owed entered olds lost → IsTurnAt place olds news found (found ++ fs) →
    (IsSoundBut s.tables s.key owed entered (all_moves olds) lost →
    IsSoundBut s.tables s.key then_owed entered (all_moves olds ++ moves_after found fs) lost) →
    IsBalancedBut s then_owed entered news lost
turned_sound s owed then_owed entered olds news lost place found fs is turn goes =
    let one = turn.one in
    let placed = is.placed place one.before one.had in
    let own = own_after moves_after moves_longer moves_long one.before one.after found fs placed
    one.turns in
    record {
      legal = each_set (λ v. AreLegal v.seen) place olds news one.before one.after one.had
          one.has is.legal
          (subst (λ (v : Known). AreLegal v.seen) (sym one.turns.left) turn.legal);
      placed = each_set HasSeenOwn place olds news one.before one.after one.had one.has
          is.placed
          (subst HasSeenOwn (sym one.turns.left)
          (placed_after one.before.seen found (found ++ fs) one.before.own one.turns.begins
          one.turns.grows placed));
      sound = same_sound s.tables s.key then_owed entered (all_moves olds ++ moves_after found fs)
          (all_moves news) lost
          (sums_after place olds news one.before one.after (moves_after found fs) one.had
          one.has own)
          (goes is.sound);
    }

-- a look
pub looked_sound : (s : Setting) (owed : List Arrival) (entered : List Card)
    (olds news : List Known) (lost : List Lost) (place : ℕ) (found : List Entry) →
    IsBalancedBut s owed entered olds lost → IsTurnAt place olds news found found →
    IsBalancedBut s owed entered news lost
looked_sound s owed entered olds news lost place found is turn =
    turned_sound s owed owed entered olds news lost place found [] is
    (subst (IsTurnAt place olds news found) (sym (append-nil found)) turn)
    (subst (λ (ms : List Move). IsSoundBut s.tables s.key owed entered ms lost)
    (sym (append-nil (all_moves olds))))

-- rows that appended nothing have no moves
pub none_moved : (known : List Known) →
    ((k : ℕ) (v : Known) → slice_get known k ≡ Some v → (v.seen ≡ []) × (v.own ≡ [])) →
    all_moves known ≡ []
none_moved [] none = refl
none_moved (v ∷ known) none =
    let here = none 0 v refl in
    ap (λ (ks : List ℕ). at_places (moves v.seen) ks ++ all_moves known) here.1
    ∙ none_moved known (λ k w at. none (suc k) w at)

-- ---- notices

pub sent_after : (port : ℕ) (olds news : List Known) (place : ℕ) (found fs : List Entry) →
    ((k : ℕ) (v : Known) → slice_get olds k ≡ Some v → HasSeenOwn v) →
    IsTurnAt place olds news found (found ++ fs) →
    sent_in port news ≡ sent_in port olds + sum_by (notices_at port) (points_after found fs)
sent_after port olds news place found fs placed turn =
    let one = turn.one in
    let own = own_after points_after points_longer points_long one.before one.after found fs
    (placed place one.before one.had) one.turns in
    weighs_more (sent_at port) place (sum_by (notices_at port) (points_after found fs)) olds news
    one.before one.after one.had one.has
    (ap (sum_by (notices_at port)) own
    ∙ sum_by-append (notices_at port)
    (at_places (points one.before.seen) one.before.own)
    (points_after found fs))

-- ---- two rows joined into one

-- one of two lists is a beginning of the longer one, and both are legal
longer_legal : (v w : Known) → AreLegal v.seen → AreLegal w.seen → AreLegal (longer v.seen w.seen)
longer_legal v w one two =
    elim (cases_Bool (nat_lt (length v.seen) (length w.seen))) [
      | inl h ↦ rw h two
      | inr h ↦ rw h one
    ]

-- what its own entries weigh in a longer list
weighs_longer : (f : Move → ℕ) (v : Known) (list : List Entry) → HasSeenOwn v →
    IsPrefix v.seen list → sum_by f (at_places (moves list) v.own) ≡ sum_by f (own_moves v)
weighs_longer f v list placed begins =
    ap (sum_by f)
    (ap (λ (es : List Entry). at_places (moves es) v.own) (sym begins.1)
    ∙ ap (λ (ms : List Move). at_places ms v.own) (moves_longer [] v.seen begins.0)
    ∙ at_longer (moves v.seen) (moves_after v.seen begins.0) 0 (length v.seen) v.own placed
    (omega (arith, moves_long [] v.seen)))

joined_weighs : (f : Move → ℕ) (v w u : Known) → HasSeenOwn v → HasSeenOwn w → Joins w v u →
    sum_by f (own_moves u) ≡ sum_by f (own_moves v) + sum_by f (own_moves w)
joined_weighs f v w u one two joins =
    let is = joins.is in
    omega (
      arith,
      ap (λ (x : Known). sum_by f (own_moves x)) is,
      merged_weighs f (moves (longer v.seen w.seen)) v.own w.own,
      weighs_longer f v (longer v.seen w.seen) one (subst (λ (x : Known). IsPrefix v.seen x.seen)
          is joins.first),
      weighs_longer f w (longer v.seen w.seen) two (subst (λ (x : Known). IsPrefix w.seen x.seen)
          is joins.second),
    )

-- the sums of two rows, place by place
pub rows_weigh : (h : Known → ℕ) (vs ws us : List Known) → length ws ≡ length vs →
    length us ≡ length vs →
    ((k : ℕ) (v w u : Known) → slice_get vs k ≡ Some v → slice_get ws k ≡ Some w →
    slice_get us k ≡ Some u → h u ≡ h v + h w) →
    sum_by h us ≡ sum_by h vs + sum_by h ws
rows_weigh h [] [] [] one two each = refl
rows_weigh h [] [] (u ∷ us) one two each = absurd (omega (arith, two))
rows_weigh h [] (w ∷ ws) us one two each = absurd (omega (arith, one))
rows_weigh h (v ∷ vs) [] us one two each = absurd (omega (arith, one))
rows_weigh h (v ∷ vs) (w ∷ ws) [] one two each = absurd (omega (arith, two))
rows_weigh h (v ∷ vs) (w ∷ ws) (u ∷ us) one two each =
    omega (
      arith,
      each 0 v w u refl refl refl,
      rows_weigh h vs ws us (omega (arith, one)) (omega (arith, two))
          (λ k a b c. each (suc k) a b c),
      sum_by-cons h v vs,
      sum_by-cons h w ws,
      sum_by-cons h u us,
    )

-- a pass that was joined of two
record FromBoth (intos froms : List Known) (k : ℕ) (u : Known) : Type 0 where
  into : Known
  from : Known
  into_at : slice_get intos k ≡ Some into
  from_at : slice_get froms k ≡ Some from
  joins : Joins from into u

pub joined_sound :
    ((low high : ℕ) (xs ys : List ℕ) → Ascends low high xs → Ascends low high ys →
    NoneInCommon xs ys → Ascends low high (merged xs ys)) →
    (s : Setting) (entered more : List Card) (intos froms afters : List Known)
    (lost gone : List Lost) → IsBalancedBut s [] entered intos lost →
    IsBalancedBut s [] more froms gone → RowJoined 0 intos froms afters →
    IsBalancedBut s [] (entered ++ more) afters (lost ++ gone)
joined_sound ascend s entered more intos froms afters lost gone one two row = record {
  legal = λ k u at. (let j = joined k u at in
      subst (λ (x : Known). AreLegal x.seen) (sym j.joins.is)
      (longer_legal j.into j.from (one.legal k j.into j.into_at) (two.legal k j.from j.from_at)));
  placed = λ k u at. placed_one k u (joined k u at);
  sound = same_sound s.tables s.key [] (entered ++ more) (all_moves intos ++ all_moves froms)
      (all_moves afters) (lost ++ gone) (λ f. omega (
        arith,
        sum_flat f own_moves afters,
        sum_flat f own_moves intos,
        sum_flat f own_moves froms,
        sum_by-append f (all_moves intos) (all_moves froms),
        rows_weigh (λ v. sum_by f (own_moves v)) intos froms afters row.both row.as_many
            (λ k v w u at also there. weigh f k v w u at also there),
      ))
      (both_sound s.tables s.key entered more (all_moves intos) (all_moves froms) lost gone
      one.sound two.sound);
}
  where
    joined : (k : ℕ) (u : Known) → slice_get afters k ≡ Some u → FromBoth intos froms k u
    joined k u at =
        let few = slice_get_within afters k u at in
        let v = item_at intos k (omega (arith, few, row.as_many)) in
        let w = item_at froms k (omega (arith, few, row.as_many, row.both)) in
        let done = row.done k v.0 w.0 (omega arith) v.1 w.1 in
        record {
          into = v.0;
          from = w.0;
          into_at = v.1;
          from_at = w.1;
          joins = subst (Joins w.0 v.0) (one_item done.after u (sym done.at ∙ at)) done.turns;
        }

    placed_one : (k : ℕ) (u : Known) → FromBoth intos froms k u → HasSeenOwn u
    placed_one k u j =
        let v = one.placed k j.into j.into_at in
        let w = two.placed k j.from j.from_at in
        subst HasSeenOwn (sym j.joins.is)
        (ascend 0 (length (longer j.into.seen j.from.seen)) j.into.own j.from.own
        (placed_longer j.into.seen (longer j.into.seen j.from.seen) j.into.own
        (subst (λ (x : Known). IsPrefix j.into.seen x.seen) j.joins.is j.joins.first) v)
        (placed_longer j.from.seen (longer j.into.seen j.from.seen) j.from.own
        (subst (λ (x : Known). IsPrefix j.from.seen x.seen) j.joins.is j.joins.second) w)
        j.joins.apart)

    weigh : (f : Move → ℕ) (k : ℕ) (v w u : Known) → slice_get intos k ≡ Some v →
        slice_get froms k ≡ Some w → slice_get afters k ≡ Some u →
        sum_by f (own_moves u) ≡ sum_by f (own_moves v) + sum_by f (own_moves w)
    weigh f k v w u at also there =
        let done = row.done k v w (omega arith) at also in
        joined_weighs f v w u (one.placed k v at) (two.placed k w also)
        (subst (Joins w v) (one_item done.after u (sym done.at ∙ there)) done.turns)
