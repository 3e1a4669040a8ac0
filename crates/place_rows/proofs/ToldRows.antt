-- Rows that tell one another, and rows that are split off another.
use Rattle.std.proofs.Common.{◌≡◌, ◌<◌, ◌≤◌, ◌+◌, ℕ, List, [], ◌∷◌, ◌++◌, length, refl, sym}
use Rattle.std.proofs.Common.{ap, ◌∙◌, subst, arith, inl, inr, append-nil, append_assoc}
use Rattle.std.specs.Prelude.{map, slice_get, slice_set, option_map, get_or}
use Rattle.std.specs.Prelude.{nat_eq}
use Rattle.std.proofs.lemmas.List.{map-set, length-set, length-map, length-append, map-append}
use Rattle.std.proofs.lemmas.Option.{slice_get_read, slice_get-map, slice_get_within}
use Rattle.std.proofs.lemmas.Bool.{cases_Bool, eqb-true, eqb-false}
use Rattle.turn_lock.specs.declared.storied.Storied.{Ghosts}
use Rattle.turn_lock.specs.declared.view.View.{View}
use Rattle.turn_lock.specs.declared.pass.Pass.{Pass}
use Rattle.turn_lock.specs.declared.lock.TurnLock.{TurnLock}
use Rattle.turn_lock.specs.Passes.{view_of}
use Rattle.turn_lock.specs.Views.{kept_view, split_view}
use Rattle.place_rows.specs.Rows.{ArePasses, TurnsOne}
use Rattle.place_rows.specs.Joining.{Splits}
use Rattle.place_rows.specs.Meeting.{Told, ToldUpTo, TellsOne}
use Rattle.place_rows.proofs.Lists.{one_item, get_same, get_other, get_seam, set_seam}
use Rattle.place_rows.proofs.RowPasses.{as_many}

pub tells_one : {S E : Type 0} {g : Ghosts S E} (froms tos : List (Pass S E g)) (k : ℕ)
    (from to from' to' : Pass S E g) → k < length froms → k < length tos →
    from ≡ get_or froms k from → to ≡ get_or tos k to →
    Told (view_of from) (view_of to) (view_of from') (view_of to') →
    TellsOne k (map view_of froms) (map view_of tos) (map view_of (slice_set froms k from'))
    (map view_of (slice_set tos k to'))
tells_one froms tos k from to from' to' one_there two_there one_is two_is told = record {
  from = view_of from;
  into = view_of to;
  from_then = view_of from';
  into_then = view_of to';
  from_had = slice_get-map view_of froms k
      ∙ ap (option_map view_of) (slice_get_read froms (length froms) k from refl one_there one_is);
  into_had = slice_get-map view_of tos k
      ∙ ap (option_map view_of) (slice_get_read tos (length tos) k to refl two_there two_is);
  from_has = map-set view_of froms k from';
  into_has = map-set view_of tos k to';
  told = told;
}

module _ {E S : Type 0} where
  pub none_told : (vs ws : List (View E S)) → length ws ≡ length vs → ToldUpTo 0 vs ws vs ws
  none_told vs ws both = record {
    done = λ k v w few at also. absurd (omega (arith, few));
    rest = λ k most. refl;
    others = λ k most. refl;
    both = both;
    as_many = refl;
    others_many = refl;
  }

  pub one_told : (n : ℕ) (vs ws vs' ws' xs ys : List (View E S)) → ToldUpTo n vs ws vs' ws' →
      TellsOne n vs' ws' xs ys → ToldUpTo (n + 1) vs ws xs ys
  one_told n vs ws vs' ws' xs ys so_far one = record {
    done = λ k v w few at also. elim (cases_Bool (nat_eq k n)) [
      | inl same ↦ (let e : k ≡ n = eqb-true k n same in
          let was : v ≡ one.from =
          one_item v one.from (sym at ∙ ap (slice_get vs) e ∙ sym (so_far.rest n (omega arith))
          ∙ one.from_had) in
          let too : w ≡ one.into =
          one_item w one.into (sym also ∙ ap (slice_get ws) e
          ∙ sym (so_far.others n (omega arith)) ∙ one.into_had) in
          record {
            from_then = one.from_then;
            into_then = one.into_then;
            from_at = ap (λ (l : List (View E S)). slice_get l k) one.from_has
                ∙ ap (slice_get (slice_set vs' n one.from_then)) e
                ∙ get_same vs' n one.from_then (slice_get_within vs' n one.from one.from_had);
            into_at = ap (λ (l : List (View E S)). slice_get l k) one.into_has
                ∙ ap (slice_get (slice_set ws' n one.into_then)) e
                ∙ get_same ws' n one.into_then (slice_get_within ws' n one.into one.into_had);
            told = subst (λ (x : View E S). Told x w one.from_then one.into_then) (sym was)
                (subst (λ (x : View E S). Told one.from x one.from_then one.into_then) (sym too)
                one.told);
          })
      | inr other ↦ (let done = so_far.done k v w (omega (arith, few, eqb-false k n other)) at also
          in
          record {
            from_then = done.from_then;
            into_then = done.into_then;
            from_at = ap (λ (l : List (View E S)). slice_get l k) one.from_has
                ∙ get_other vs' n k one.from_then (eqb-false k n other) ∙ done.from_at;
            into_at = ap (λ (l : List (View E S)). slice_get l k) one.into_has
                ∙ get_other ws' n k one.into_then (eqb-false k n other) ∙ done.into_at;
            told = done.told;
          })
    ];
    rest = λ k most. ap (λ (l : List (View E S)). slice_get l k) one.from_has
        ∙ get_other vs' n k one.from_then (λ same. absurd (omega (arith, most, same)))
        ∙ so_far.rest k (omega (arith, most));
    others = λ k most. ap (λ (l : List (View E S)). slice_get l k) one.into_has
        ∙ get_other ws' n k one.into_then (λ same. absurd (omega (arith, most, same)))
        ∙ so_far.others k (omega (arith, most));
    both = so_far.both;
    as_many = ap length one.from_has ∙ length-set vs' n one.from_then ∙ so_far.as_many;
    others_many = ap length one.into_has ∙ length-set ws' n one.into_then ∙ so_far.others_many;
  }

-- ---- splitting

module _ {E S : Type 0} where
  -- of a row whose passes before this place were split: what it then has, and what was made
  pub record SplitUpTo (n : ℕ) (olds news made : List (View E S)) : Type 0 where
    pub done : List (View E S)
    pub rest : List (View E S)
    pub was : olds ≡ done ++ rest
    pub count : length done ≡ n
    pub kept : news ≡ map kept_view done ++ rest
    pub split : made ≡ map split_view done

  pub none_split : (olds made : List (View E S)) → made ≡ [] → SplitUpTo 0 olds olds made
  none_split olds made none = record {
    done = [];
    rest = olds;
    was = refl;
    count = refl;
    kept = refl;
    split = none;
  }

  pub one_split : (n : ℕ) (olds news made afters more : List (View E S)) (piece : View E S) →
      SplitUpTo n olds news made → TurnsOne n news afters (Splits piece) →
      more ≡ made ++ piece ∷ [] → SplitUpTo (n + 1) olds afters more
  one_split n olds news made afters more piece s one pushed = inner s.rest refl
    where
      inner : (rest : List (View E S)) → s.rest ≡ rest → SplitUpTo (n + 1) olds afters more
      inner [] none =
          let whole : news ≡ map kept_view s.done =
          s.kept ∙ ap (λ (l : List (View E S)). map kept_view s.done ++ l) none
          ∙ append-nil (map kept_view s.done) in
          absurd (omega (
            arith,
            slice_get_within news n one.before one.had,
            ap length whole,
            length-map s.done kept_view,
            s.count,
          ))
      inner (v ∷ vs) some =
          let f : View E S → View E S = kept_view in
          let split : news ≡ map f s.done ++ v ∷ vs =
          s.kept ∙ ap (λ (l : List (View E S)). map f s.done ++ l) some in
          let at : n ≡ length (map f s.done) = omega (arith, s.count, length-map s.done f) in
          let before_is : one.before ≡ v =
          one_item one.before v (sym one.had ∙ ap (λ (l : List (View E S)). slice_get l n) split
          ∙ ap (slice_get (map f s.done ++ v ∷ vs)) at ∙ get_seam (map f s.done) v vs) in
          record {
            done = s.done ++ v ∷ [];
            rest = vs;
            was = s.was ∙ ap (λ (l : List (View E S)). s.done ++ l) some
                ∙ sym (append_assoc s.done (v ∷ []) vs);
            count = omega (arith, length-append s.done (v ∷ []), s.count);
            kept = one.has ∙ ap (λ (l : List (View E S)). slice_set l n one.after) split
                ∙ ap (λ k. slice_set (map f s.done ++ v ∷ vs) k one.after) at
                ∙ set_seam (map f s.done) v one.after vs
                ∙ ap (λ (x : View E S). map f s.done ++ x ∷ vs) (one.turns.kept ∙ ap f before_is)
                ∙ sym (append_assoc (map f s.done) (f v ∷ []) vs)
                ∙ ap (λ (l : List (View E S)). l ++ vs) (sym (map-append f s.done (v ∷ [])));
            split = pushed
                ∙ ap (λ (l : List (View E S)). l ++ piece ∷ []) s.split
                ∙ ap (λ (x : View E S). map split_view s.done ++ x ∷ [])
                (one.turns.split ∙ ap (λ (x : View E S). split_view x) before_is)
                ∙ sym (map-append (λ (x : View E S). split_view x) s.done (v ∷ []));
          }

  -- all of the row were split
  pub record AllSplit (olds news made : List (View E S)) : Type 0 where
    pub kept : news ≡ map kept_view olds
    pub split : made ≡ map split_view olds

  pub all_split : (n : ℕ) (olds news made : List (View E S)) → SplitUpTo n olds news made →
      length olds ≤ n → AllSplit olds news made
  all_split n olds news made s most = inner s.rest refl
    where
      inner : (rest : List (View E S)) → s.rest ≡ rest → AllSplit olds news made
      inner [] none =
          let all : s.done ≡ olds =
          sym (s.was ∙ ap (λ (l : List (View E S)). s.done ++ l) none ∙ append-nil s.done) in
          record {
            kept = s.kept ∙ ap (λ (l : List (View E S)). map kept_view s.done ++ l) none
                ∙ append-nil (map kept_view s.done) ∙ ap (map kept_view) all;
            split = s.split ∙ ap (map split_view) all;
          }
      inner (v ∷ vs) some =
          absurd (omega (
            arith,
            most,
            s.count,
            ap length s.was,
            length-append s.done s.rest,
            ap (λ (l : List (View E S)). length l) some,
          ))

-- so a row of passes, place by place up to the last
pub row_split : {S E : Type 0} {g : Ghosts S E} {L : Type 0} (label : S → L) (named : ℕ → L)
    (locks : List (TurnLock S E)) (row : List (Pass S E g)) → ArePasses label named locks row →
    (n : ℕ) (news made : List (View E S)) → n ≡ length locks →
    SplitUpTo n (map view_of row) news made → AllSplit (map view_of row) news made
row_split label named locks row are n news made all split =
    all_split n (map view_of row) news made split
    (omega (arith, all, length-map row view_of, as_many label named locks row are))
