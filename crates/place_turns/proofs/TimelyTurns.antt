-- Passes stay timely as a turn at one place appends entries of its own.
use Rattle.std.proofs.Common.{◌≡◌, ◌≢◌, ◌<◌, ◌≤◌, ◌-◌, ℕ, zero, suc, List, [], ◌∷◌, ◌++◌, length}
use Rattle.std.proofs.Common.{refl, sym, ap, ◌∙◌, subst, arith, inl, inr}
use Rattle.std.proofs.Common.{◌⊎◌, Some, Bool, true, false}
use Rattle.std.proofs.Common.{append-nil, length-append, nat_eq}
use Rattle.std.specs.Prelude.{slice_get, nat_le}
use Rattle.std.specs.List.{range_with_len}
use Rattle.std.proofs.lemmas.Bool.{cases_Bool, eqb-true, eqb-false}
use Rattle.std.proofs.lemmas.Bool.Decides.{nat_tests}
use Rattle.std.proofs.lemmas.List.{append_cancel_left, length-map}
use Rattle.std.proofs.lemmas.Option.{slice_get_within}
use mathlib.Core.List.{IsPrefix}
use Rattle.turn_lock.specs.Places.{In}
use Rattle.turn_lock.specs.Views.{HasSeenOwn}
use Rattle.histories.specs.declared.entry.Entry.{Entry}
use Rattle.total_order.specs.Orders.{EachIs}
use Rattle.total_order.specs.Steps.{InLogOrderAs}
use Rattle.locked_place.specs.Times.{plain_view, all_at, TakesTime}
use Rattle.locked_place.specs.Turns.{IsTurn}
use Rattle.place_rows.specs.Rows.{Known, TimedKnown, TurnsOne}
use Rattle.place_turns.specs.Departures.{SeeOn}
use Rattle.place_turns.specs.Timely.{Holder, IsOwn, RestsOn, AreAllEarly, AreTimely, IsNoClosing}
use Rattle.place_turns.proofs.PassTurns.{get_same, get_other, some_same}
use Rattle.place_turns.proofs.OwnEntries.{each_append, each_map, each_at, begins_with}
use Rattle.place_turns.proofs.OwnEntries.{at_behind, before_in, in_either, in_range, own_seen}
use Rattle.place_turns.proofs.OwnEntries.{rests_on}

-- ---- a turn, with its time

-- the turn found so much, and appended these entries at a time
pub record TimedTurn (clock time : ℕ) (v w : TimedKnown) (more : List Entry) : Type 0 where
  pub later : clock < time
  pub found : List (Entry × ℕ)
  pub begins : IsPrefix v.seen found
  pub early : EachIs (λ x. x.1 < time) found
  pub seen : w.seen ≡ found ++ all_at time more
  pub own : w.own ≡ v.own ++ range_with_len (length found) (length more)

pub timed_turn : (clock time : ℕ) (v w : TimedKnown) (before after more : List Entry) →
    IsTurn (plain_view v) before after (plain_view w) → TakesTime clock time v w before after →
    after ≡ before ++ more → TimedTurn clock time v w more
timed_turn clock time v w before after more turn takes is =
    let same : takes.more ≡ more =
    append_cancel_left before takes.more more (sym takes.left_plain ∙ is) in
    let long : length takes.found ≡ length before =
    sym (length-map takes.found (λ x. x.0)) ∙ ap length takes.found_plain in
    let many : length after - length before ≡ length more =
    omega (arith, ap length is, length-append before more) in
    record {
      later = takes.later;
      found = takes.found;
      begins = takes.begins;
      early = takes.early;
      seen = takes.seen ∙ ap (λ es. takes.found ++ all_at time es) same;
      own = ap (λ (x : Known). x.own) turn.left
          ∙ ap (λ n. v.own ++ range_with_len n (length after - length before)) (sym long)
          ∙ ap (λ n. v.own ++ range_with_len (length takes.found) n) many;
    }

-- what all of these have
at_one_time : (time : ℕ) (es : List Entry) → EachIs (λ x. x.1 ≤ time) (all_at time es)
at_one_time time [] = tt
at_one_time time (e ∷ es) = (omega arith, at_one_time time es)

-- one of those at one time
record IsAmong (time : ℕ) (es : List Entry) (i : ℕ) (x : Entry × ℕ) : Type 0 where
  at : slice_get es i ≡ Some x.0
  is : x.1 ≡ time

among : (time : ℕ) (es : List Entry) (i : ℕ) (x : Entry × ℕ) →
    slice_get (all_at time es) i ≡ Some x → IsAmong time es i x
among time [] i x at = absurd (cc at)
among time (e ∷ es) zero x at =
    let same : (e, time) ≡ x = some_same (e, time) x at in
    subst (λ y. IsAmong time (e ∷ es) zero y) same (record { at = refl; is = refl })
among time (e ∷ es) (suc i) x at =
    let rest = among time es i x at in record { at = rest.at; is = rest.is }

-- where the turn's entries stand the one position, and elsewhere those that were
abbrev pick : Bool → Bool → ℕ → ℕ → ℕ
pick true true old new = new
pick true false old new = old
pick false behind old new = old

module _ (clock time place : ℕ) (row news : List TimedKnown) (more : List Entry)
    (one : TurnsOne place row news (λ v w. TimedTurn clock time v w more)) where
  -- a pass then is the one that took the turn, or has stayed
  after_or_still : (k : ℕ) (w : TimedKnown) → slice_get news k ≡ Some w →
      ((k ≡ place) × (w ≡ one.after)) ⊎ ((k ≢ place) × (slice_get row k ≡ Some w))
  after_or_still k w at = elim (cases_Bool (nat_eq k place)) [
    | inl h ↦ (let e : k ≡ place = eqb-true k place h in
        inl (
          e,
          sym (some_same one.after w
              (sym (get_same row place one.after (slice_get_within row place one.before one.had))
              ∙ ap (λ (l : List TimedKnown). slice_get l place) (sym one.has)
              ∙ ap (slice_get news) (sym e) ∙ at)),
        ))
    | inr h ↦ (let apart : k ≢ place = eqb-false k place h in
        inr (
          apart,
          sym (get_other row place k one.after apart)
              ∙ ap (λ (l : List TimedKnown). slice_get l k) (sym one.has) ∙ at,
        ))
  ]

  -- the pass that took the turn
  pub there : slice_get news place ≡ Some one.after
  there =
      ap (λ (l : List TimedKnown). slice_get l place) one.has
      ∙ get_same row place one.after (slice_get_within row place one.before one.had)

  goes_on : IsPrefix one.before.seen one.after.seen
  goes_on = begins_with one.before.seen one.turns.found one.after.seen one.turns.begins
      (all_at time more, sym one.turns.seen)

  no_fewer : (i : ℕ) → i < length one.before.seen → i < length one.turns.found
  no_fewer i few =
      let p = one.turns.begins in
      omega (arith, few, ap length p.1, length-append one.before.seen p.0)

  -- at each place at least as much was seen
  pub sees_on : SeeOn row news
  sees_on k v at = elim (cases_Bool (nat_eq k place)) [
    | inl h ↦ (let e : k ≡ place = eqb-true k place h in
        record {
          after = one.after;
          at = ap (slice_get news) e ∙ there;
          turns = subst (λ (x : TimedKnown). IsPrefix x.seen one.after.seen)
              (some_same one.before v (sym one.had ∙ ap (slice_get row) (sym e) ∙ at)) goes_on;
        })
    | inr h ↦ (let apart : k ≢ place = eqb-false k place h in
        record {
          after = v;
          at = ap (λ (l : List TimedKnown). slice_get l k) one.has
              ∙ get_other row place k one.after apart ∙ at;
          turns = ([], append-nil v.seen);
        })
  ]

  -- nothing seen is later than the turn
  late_then : ((k : ℕ) (v : TimedKnown) → slice_get row k ≡ Some v →
      EachIs (λ x. x.1 ≤ clock) v.seen) →
      (k : ℕ) (w : TimedKnown) → slice_get news k ≡ Some w → EachIs (λ x. x.1 ≤ time) w.seen
  late_then late k w at =
      let m = one.turns.later in
      elim (after_or_still k w at) [
        | inl h ↦ subst (λ (x : TimedKnown). EachIs (λ y. y.1 ≤ time) x.seen) (sym h.1)
            (subst (λ (l : List (Entry × ℕ)). EachIs (λ y. y.1 ≤ time) l) (sym one.turns.seen)
            (each_append (λ y. y.1 ≤ time) one.turns.found (all_at time more)
            (each_map (λ y. y.1 < time) (λ y. y.1 ≤ time) one.turns.found
            (λ y l. omega (arith, l)) one.turns.early) (at_one_time time more)))
        | inr h ↦ each_map (λ y. y.1 ≤ clock) (λ y. y.1 ≤ time) w.seen
            (λ y l. omega (arith, l, m)) (late k w h.1)
      ]

  -- ---- own entries

  -- it was there before
  record IsOld (k i : ℕ) (x : Entry × ℕ) : Type 0 where
    own : IsOwn row k i x
    front : k ≡ place → i < length one.turns.found

  -- it is of this turn
  record IsNew (k i : ℕ) (x : Entry × ℕ) : Type 0 where
    here : k ≡ place
    behind : length one.turns.found ≤ i
    among : IsAmong time more (i - length one.turns.found) x

  module _ (placed : (k : ℕ) (v : TimedKnown) → slice_get row k ≡ Some v → HasSeenOwn v) where
    old_or_new : (k i : ℕ) (x : Entry × ℕ) → IsOwn news k i x → IsOld k i x ⊎ IsNew k i x
    old_or_new k i x own = elim (after_or_still k own.pass own.there) [
      | inl h ↦ here h.0 (subst (λ (v : TimedKnown). In i v.own) h.1 own.own)
          (subst (λ (v : TimedKnown). slice_get v.seen i ≡ Some x) h.1 own.is)
      | inr h ↦ inl (record {
        own = record { pass = own.pass; there = h.1; own = own.own; is = own.is };
        front = λ e. absurd (h.0 e);
      })
    ]
      where
        here : k ≡ place → In i one.after.own → slice_get one.after.seen i ≡ Some x →
            IsOld k i x ⊎ IsNew k i x
        here e among_own is =
            let parts =
            in_either i one.before.own (range_with_len (length one.turns.found) (length more))
            (subst (In i) one.turns.own among_own) in
            elim parts [
              | inl old ↦ (let few = own_seen one.before i (placed place one.before one.had) old in
                  inl (record {
                    own = record {
                      pass = one.before;
                      there = ap (slice_get row) e ∙ one.had;
                      own = old;
                      is = before_in one.before.seen one.after.seen i x goes_on few is;
                    };
                    front = λ same. no_fewer i few;
                  }))
              | inr new ↦ (let r = in_range i (length one.turns.found) (length more) new in
                  inr (record {
                    here = e;
                    behind = r.0;
                    among = among time more (i - length one.turns.found) x
                        (sym (at_behind one.turns.found (all_at time more) i r.0)
                        ∙ ap (λ (l : List (Entry × ℕ)). slice_get l i) (sym one.turns.seen) ∙ is);
                  }))
            ]

    module _ (position : ℕ → ℕ → ℕ) (at : ℕ) where
      abbrev position_then : ℕ → ℕ → ℕ
      position_then k i =
          pick (nat_eq k place) (nat_le (length one.turns.found) i) (position k i) at

      old_position : (k i : ℕ) (x : Entry × ℕ) → IsOld k i x → position_then k i ≡ position k i
      old_position k i x old = by (nat_eq k place) refl
          (nat_le (length one.turns.found) i) refl
        where
          by : (b : Bool) → nat_eq k place ≡ b → (d : Bool) →
              nat_le (length one.turns.found) i ≡ d → pick b d (position k i) at ≡ position k i
          by true e true f =
              let same : k ≡ place = eqb-true k place e in
              let few = old.front same in
              let many : length one.turns.found ≤ i = grind (arith, nat_tests) in
              absurd (omega (arith, few, many))
          by true e false f = refl
          by false e d f = refl

      new_position : (k i : ℕ) (x : Entry × ℕ) → IsNew k i x → position_then k i ≡ at
      new_position k i x new = by (nat_eq k place) refl
          (nat_le (length one.turns.found) i) refl
        where
          by : (b : Bool) → nat_eq k place ≡ b → (d : Bool) →
              nat_le (length one.turns.found) i ≡ d → pick b d (position k i) at ≡ at
          by true e true f = refl
          by true e false f =
              let many = new.behind in
              let few : i < length one.turns.found = grind (arith, nat_tests) in
              absurd (omega (arith, few, many))
          by false e d f = absurd (eqb-false k place e new.here)

    -- ---- the turn

    module _ (h g : Holder) (timely : AreTimely clock row h) (at : ℕ)
        (keeps : (k i : ℕ) (x : Entry × ℕ) → IsOwn row k i x →
        RestsOn news h x.1 (timely.position k i) x.0.event →
        RestsOn news g x.1 (timely.position k i) x.0.event)
        (rests : EachIs (λ (e : Entry). RestsOn news g time at e.event) more)
        (follows : (k i : ℕ) (x : Entry × ℕ) → IsOwn row k i x →
        EachIs (λ (e : Entry). InLogOrderAs x.0.event (timely.position k i) e.event at) more)
        (beside : (i j : ℕ) (d e : Entry) → (i ≡ j → ⊥) → slice_get more i ≡ Some d →
        slice_get more j ≡ Some e → InLogOrderAs d.event at e.event at)
        (told : AreAllEarly (suc time) g.dids g.heard) where
      abbrev then_ : ℕ → ℕ → ℕ
      then_ = position_then timely.position at

      own_then : (k i : ℕ) (x : Entry × ℕ) → IsOwn news k i x →
          RestsOn news g x.1 (then_ k i) x.0.event
      own_then k i x own = elim (old_or_new k i x own) [
        | inl old ↦ subst (λ p. RestsOn news g x.1 p x.0.event)
            (sym (old_position timely.position at k i x old))
            (keeps k i x old.own
            (rests_on row news sees_on h x.1 (timely.position k i) x.0.event
            (timely.own k i x old.own)))
        | inr new ↦ subst (λ p. RestsOn news g x.1 p x.0.event)
            (sym (new_position timely.position at k i x new))
            (subst (λ t. RestsOn news g t at x.0.event) (sym new.among.is)
            (each_at (λ (e : Entry). RestsOn news g time at e.event) more
            (i - length one.turns.found) x.0 rests new.among.at))
      ]

      old_time : (k i : ℕ) (x : Entry × ℕ) → IsOwn row k i x → x.1 ≤ clock
      old_time k i x own =
          each_at (λ y. y.1 ≤ clock) own.pass.seen i x (timely.late k own.pass own.there) own.is

      kept_then : (k i j l : ℕ) (x y : Entry × ℕ) → IsOwn news k i x → IsOwn news j l y →
          ((k ≡ j) × (i ≡ l) → ⊥) → x.1 ≤ y.1 →
          InLogOrderAs x.0.event (then_ k i) y.0.event (then_ j l)
      kept_then k i j l x y own other apart not_later = elim (old_or_new k i x own) [
        | inl old ↦ subst (λ p. InLogOrderAs x.0.event p y.0.event (then_ j l))
            (sym (old_position timely.position at k i x old))
            (elim (old_or_new j l y other) [
              | inl also ↦ subst
                  (λ q. InLogOrderAs x.0.event (timely.position k i) y.0.event q)
                  (sym (old_position timely.position at j l y also))
                  (timely.kept k i j l x y old.own also.own apart not_later)
              | inr new ↦ subst
                  (λ q. InLogOrderAs x.0.event (timely.position k i) y.0.event q)
                  (sym (new_position timely.position at j l y new))
                  (each_at (λ (e : Entry). InLogOrderAs x.0.event (timely.position k i) e.event at)
                  more (l - length one.turns.found) y.0 (follows k i x old.own) new.among.at)
            ])
        | inr new ↦ elim (old_or_new j l y other) [
          | inl old ↦ (let early = old_time j l y old.own in
              let m = one.turns.later in
              let is = new.among.is in absurd (omega (arith, early, m, is, not_later)))
          | inr also ↦ subst (λ p. InLogOrderAs x.0.event p y.0.event (then_ j l))
              (sym (new_position timely.position at k i x new))
              (subst (λ q. InLogOrderAs x.0.event at y.0.event q)
              (sym (new_position timely.position at j l y also))
              (beside (i - length one.turns.found) (l - length one.turns.found) x.0 y.0
              (λ e. (let b = new.behind in
              let c = also.behind in
              apart (new.here ∙ sym also.here, omega (arith, e, b, c))))
              new.among.at also.among.at))
        ]
      ]

      -- any turn
      pub turned : AreTimely time news g
      turned = record {
        late = late_then timely.late;
        told = told;
        position = then_;
        own = own_then;
        kept = kept_then;
      }

    -- a turn that closes nothing
    pub still_open : EachIs (λ (e : Entry). IsNoClosing e.event) more →
        ((k i : ℕ) (x : Entry × ℕ) → IsOwn row k i x → IsNoClosing x.0.event) →
        (k i : ℕ) (x : Entry × ℕ) → IsOwn news k i x → IsNoClosing x.0.event
    still_open new_open was k i x own = elim (old_or_new k i x own) [
      | inl old ↦ was k i x old.own
      | inr new ↦ each_at (λ (e : Entry). IsNoClosing e.event) more
          (i - length one.turns.found) x.0 new_open new.among.at
    ]
