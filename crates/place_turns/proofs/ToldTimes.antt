-- Rows of passes that told others, were told, or were joined, stay timely.
use Rattle.std.proofs.Common.{◌≡◌, ◌≤◌, ◌⊎◌, ℕ, List, [], length, refl, sym, ap, ◌∙◌, subst}
use Rattle.std.proofs.Common.{arith, inl, inr, Some, Bool, true, false, append-nil}
use Rattle.std.specs.Prelude.{slice_get, if◌then◌else◌, nat_lt, ◌↔◌}
use Rattle.std.proofs.lemmas.Bool.{cases_Bool}
use Rattle.std.proofs.lemmas.Bool.Decides.{nat_tests}
use Rattle.std.proofs.lemmas.Option.{slice_get_within}
use mathlib.Core.List.{IsPrefix}
use Rattle.queue_core.specs.declared.event.Event.{Event}
use Rattle.queue_core.specs.declared.event.Event.TheVariants.{Arrive, Ask, PortClosed, DeviceDown}
use Rattle.turn_lock.specs.Places.{In, merged, longer}
use Rattle.turn_lock.specs.Views.{HasSeenOwn}
use Rattle.histories.specs.declared.entry.Entry.{Entry}
use Rattle.total_order.specs.Orders.{EachIs}
use Rattle.total_order.specs.Steps.{InLogOrderAs}
use Rattle.place_rows.specs.Joining.{RowJoined}
use Rattle.place_rows.specs.Meeting.{ToldUpTo}
use Rattle.place_rows.specs.Rows.{TimedKnown}
use Rattle.place_turns.specs.Departures.{SeeOn}
use Rattle.place_turns.specs.Timely.{IsOwn, RestsOn, AreTimelyOpen, IsNoClosing, feeder}
use Rattle.place_turns.proofs.OwnEntries.{each_map, before_in, own_seen, seen_before_on}
use Rattle.place_turns.proofs.JoinedRows.{joined_of}
use Rattle.place_turns.proofs.PassTurns.{some_same}
use Rattle.place_turns.proofs.LongerViews.{Was, SeesMore, AreUpTo, sees_more}
use Rattle.place_turns.proofs.ToldCounts.{item_at}

each_longer : (P : Entry × ℕ → Type 0) (xs ys : List (Entry × ℕ)) → EachIs P xs → EachIs P ys →
    EachIs P (longer xs ys)
each_longer P xs ys one two = by (nat_lt (length xs) (length ys))
  where
    by : (b : Bool) → EachIs P (if b then ys else xs)
    by true = two
    by false = one

-- what is no later than this is no later than any later time
up_to : (clock time : ℕ) (xs : List (Entry × ℕ)) → clock ≤ time → EachIs (λ x. x.1 ≤ clock) xs →
    EachIs (λ x. x.1 ≤ time) xs
up_to clock time xs later h =
    each_map (λ x. x.1 ≤ clock) (λ x. x.1 ≤ time) xs (λ x l. omega (arith, l, later)) h

-- ---- telling

module _ (n : ℕ) (froms intos froms_then intos_then : List TimedKnown)
    (told : ToldUpTo n froms intos froms_then intos_then) where
  -- a pass that was told, or not
  record Hears (k : ℕ) (w : TimedKnown) : Type 0 where
    from : TimedKnown
    from_at : slice_get froms k ≡ Some from
    was : Was intos k w
    each : (time : ℕ) → EachIs (λ x. x.1 ≤ time) from.seen →
        EachIs (λ x. x.1 ≤ time) was.before.seen → EachIs (λ x. x.1 ≤ time) w.seen

  hears : (k : ℕ) (w : TimedKnown) → slice_get intos_then k ≡ Some w → Hears k w
  hears k w at =
      let few = slice_get_within intos_then k w at in
      let into = item_at intos k (omega (arith, few, told.others_many)) in
      let from = item_at froms k (omega (arith, few, told.others_many, told.both)) in
      elim (cases_Bool (nat_lt k n)) [
        | inl h ↦ (let done = told.done k from.0 into.0 (grind (arith, nat_tests)) from.1 into.1 in
            let is : done.into_then ≡ w = some_same done.into_then w (sym done.into_at ∙ at) in
            let seen = sym (ap (λ (x : TimedKnown). x.seen) is)
            ∙ ap (λ (x : TimedKnown). x.seen) done.told.second in
            record {
              from = from.0;
              from_at = from.1;
              was = record {
                before = into.0;
                at = into.1;
                begins = subst (λ (x : TimedKnown). IsPrefix into.0.seen x.seen) is
                    done.told.behind;
                own = sym (ap (λ (x : TimedKnown). x.own) is)
                    ∙ ap (λ (x : TimedKnown). x.own) done.told.second;
              };
              each = λ time one two. subst (λ l. EachIs (λ x. x.1 ≤ time) l) (sym seen)
                  (each_longer (λ x. x.1 ≤ time) into.0.seen from.0.seen two one);
            })
        | inr h ↦ record {
          from = from.0;
          from_at = from.1;
          was = record {
            before = w;
            at = sym (told.others k (grind (arith, nat_tests))) ∙ at;
            begins = ([], append-nil w.seen);
            own = refl;
          };
          each = λ time one two. two;
        }
      ]

  pub hearer_more : ((k : ℕ) (v : TimedKnown) → slice_get intos k ≡ Some v → HasSeenOwn v) →
      SeesMore intos intos_then
  hearer_more placed =
      sees_more intos intos_then told.others_many (λ k w at. (hears k w at).was) placed

  pub hearer_late : (clock other time : ℕ) → clock ≤ time → other ≤ time → AreUpTo clock froms →
      AreUpTo other intos → AreUpTo time intos_then
  hearer_late clock other time later also late late_too k w at =
      let is = hears k w at in
      is.each time (up_to clock time is.from.seen later (late k is.from is.from_at))
      (up_to other time is.was.before.seen also (late_too k is.was.before is.was.at))

  -- a pass that told has seen the same
  record Tells (k : ℕ) (w : TimedKnown) : Type 0 where
    before : TimedKnown
    at : slice_get froms k ≡ Some before
    seen : w.seen ≡ before.seen
    own : w.own ≡ before.own

  tells : (k : ℕ) (w : TimedKnown) → slice_get froms_then k ≡ Some w → Tells k w
  tells k w at =
      let few = slice_get_within froms_then k w at in
      let from = item_at froms k (omega (arith, few, told.as_many)) in
      let into = item_at intos k (omega (arith, few, told.as_many, told.both)) in
      elim (cases_Bool (nat_lt k n)) [
        | inl h ↦ (let done = told.done k from.0 into.0 (grind (arith, nat_tests)) from.1 into.1 in
            let is : done.from_then ≡ w = some_same done.from_then w (sym done.from_at ∙ at) in
            record {
              before = from.0;
              at = from.1;
              seen = sym (ap (λ (x : TimedKnown). x.seen) is)
                  ∙ ap (λ (x : TimedKnown). x.seen) done.told.first;
              own = sym (ap (λ (x : TimedKnown). x.own) is)
                  ∙ ap (λ (x : TimedKnown). x.own) done.told.first;
            })
        | inr h ↦ record {
          before = w;
          at = sym (told.rest k (grind (arith, nat_tests))) ∙ at;
          seen = refl;
          own = refl;
        }
      ]

  pub teller_more : ((k : ℕ) (v : TimedKnown) → slice_get froms k ≡ Some v → HasSeenOwn v) →
      SeesMore froms froms_then
  teller_more placed =
      sees_more froms froms_then told.as_many
      (λ k w at. (let is = tells k w at in
      record {
        before = is.before;
        at = is.at;
        begins = ([], append-nil is.before.seen ∙ sym is.seen);
        own = is.own;
      })) placed

  pub teller_late : (clock : ℕ) → AreUpTo clock froms → AreUpTo clock froms_then
  teller_late clock late k w at =
      let is = tells k w at in
      subst (λ l. EachIs (λ x. x.1 ≤ clock) l) (sym is.seen) (late k is.before is.at)

-- ---- joining, of passes of who feeds

module _ (row news : List TimedKnown) (on : SeeOn row news) where
  rests_still : (time at : ℕ) (event : Event) → RestsOn row feeder time at event →
      RestsOn news feeder time 0 event
  rests_still time at (Arrive card bypass room) r = seen_before_on row news on time _ r
  rests_still time at (Ask port call request) r = absurd (cc (r.0))
  rests_still time at (PortClosed port) r = absurd (cc (r.0))
  rests_still time at (DeviceDown device) r = tt

no_order : (row : List TimedKnown) (time at p q : ℕ) (first second : Event) →
    RestsOn row feeder time at first → InLogOrderAs first p second q
no_order row time at p q (Arrive card bypass room) second r = tt
no_order row time at p q (Ask port call request) second r = absurd (cc (r.0))
no_order row time at p q (PortClosed port) second r = absurd (cc (r.0))
no_order row time at p q (DeviceDown device) second r = tt

-- what the law says of the places of two passes in one
abbrev pub BothPlaces : Type 0
BothPlaces = (k : ℕ) (xs ys : List ℕ) → In k (merged xs ys) ↔ (In k xs ⊎ In k ys)

module _ (places : BothPlaces) (intos froms afters : List TimedKnown)
    (joined : RowJoined 0 intos froms afters)
    (placed : (k : ℕ) (v : TimedKnown) → slice_get intos k ≡ Some v → HasSeenOwn v)
    (also_placed : (k : ℕ) (v : TimedKnown) → slice_get froms k ≡ Some v → HasSeenOwn v) where
  intos_on : SeeOn intos afters
  intos_on k v at =
      let w = item_at froms k (omega (arith, slice_get_within intos k v at, joined.both)) in
      let done = joined.done k v w.0 (omega arith) at w.1 in
      record { after = done.after; at = done.at; turns = done.turns.first }

  froms_on : SeeOn froms afters
  froms_on k w at =
      let v = item_at intos k (omega (arith, slice_get_within froms k w at, joined.both)) in
      let done = joined.done k v.0 w (omega arith) v.1 at in
      record { after = done.after; at = done.at; turns = done.turns.second }

  -- an entry of its own is one of either
  of_either : (k i : ℕ) (x : Entry × ℕ) → IsOwn afters k i x →
      IsOwn intos k i x ⊎ IsOwn froms k i x
  of_either k i x own =
      let j = joined_of intos froms afters joined k own.pass own.there in
      let among = subst (In i) (ap (λ (v : TimedKnown). v.own) j.joins.is) own.own in
      elim ((places i j.into.own j.from.own).0 among) [
        | inl one ↦ inl (record {
          pass = j.into;
          there = j.into_at;
          own = one;
          is = before_in j.into.seen own.pass.seen i x j.joins.first
              (own_seen j.into i (placed k j.into j.into_at) one) own.is;
        })
        | inr two ↦ inr (record {
          pass = j.from;
          there = j.from_at;
          own = two;
          is = before_in j.from.seen own.pass.seen i x j.joins.second
              (own_seen j.from i (also_placed k j.from j.from_at) two) own.is;
        })
      ]

  module _ (clock other time : ℕ) (later : clock ≤ time) (also : other ≤ time)
      (is : AreTimelyOpen clock intos feeder) (too : AreTimelyOpen other froms feeder) where
    rests_so : (k i : ℕ) (x : Entry × ℕ) → IsOwn afters k i x →
        RestsOn afters feeder x.1 0 x.0.event
    rests_so k i x own = elim (of_either k i x own) [
      | inl one ↦ rests_still intos afters intos_on x.1 (is.timely.position k i) x.0.event
          (is.timely.own k i x one)
      | inr two ↦ rests_still froms afters froms_on x.1 (too.timely.position k i) x.0.event
          (too.timely.own k i x two)
    ]

    open_so : (k i : ℕ) (x : Entry × ℕ) → IsOwn afters k i x → IsNoClosing x.0.event
    open_so k i x own = elim (of_either k i x own) [
      | inl one ↦ is.none_closed k i x one
      | inr two ↦ too.none_closed k i x two
    ]

    pub joined_open : AreTimelyOpen time afters feeder
    joined_open = record {
      timely = record {
        late = λ k u at. (let j = joined_of intos froms afters joined k u at in
            subst (λ (v : TimedKnown). EachIs (λ x. x.1 ≤ time) v.seen) (sym j.joins.is)
            (each_longer (λ x. x.1 ≤ time) j.into.seen j.from.seen
            (up_to clock time j.into.seen later (is.timely.late k j.into j.into_at))
            (up_to other time j.from.seen also (too.timely.late k j.from j.from_at))));
        told = (tt, refl);
        position = λ k i. 0;
        own = rests_so;
        kept = λ k i j l x y own other_own apart not_later.
            no_order afters x.1 0 0 0 x.0.event y.0.event (rests_so k i x own);
      };
      none_closed = open_so;
    }
