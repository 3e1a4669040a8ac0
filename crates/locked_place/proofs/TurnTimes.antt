-- Turns under the lock, with their times.
use Rattle.std.proofs.Common.{◌≡◌, ◌<◌, ◌-◌, ℕ, List, [], ◌++◌, length, refl, sym, ap}
use Rattle.std.proofs.Common.{◌∙◌, arith, subst, append-nil}
use Rattle.std.specs.Prelude.{map, Result, Ok, Err, IfOk, OnOk, OnErr}
use Rattle.std.specs.List.{range_with_len}
use Rattle.std.proofs.lemmas.List.{length-append}
use mathlib.Core.List.{IsPrefix}
use Rattle.turn_lock.specs.declared.view.View.{View}
use Rattle.turn_lock.specs.declared.view.Turn.TheVariants.{Served}
use Rattle.turn_lock.specs.Places.{places_after}
use Rattle.turn_lock.specs.Views.{with_turn, left_view}
use Rattle.total_order.specs.Orders.{untimed}
use Rattle.packet_entry.specs.declared.packet.Card.{Card}
use Rattle.hook_chain.specs.declared.chain.Decision.{Decision}
use Rattle.nfqa_msgs.specs.declared.request.Request.{Request}
use Rattle.histories.specs.declared.entry.Entry.{Entry}
use Rattle.histories.specs.History.{AreLegal}
use Rattle.histories.specs.Journeys.{Arrival}
use Rattle.histories.specs.States.{told, taken_in}
use Rattle.histories.specs.Happenings.{closings, downs}
use Rattle.locked_place.specs.declared.arrivals.Placed.{Placed}
use Rattle.locked_place.specs.Times.{timed, all_at, plain_view, TakesTime, AreTimed}
use Rattle.locked_place.specs.Turns.{IsTurn, turned, Arrives, Asks, handed_by, TimedLook}
use Rattle.locked_place.specs.Turns.{TimedArrival, TimedRequest, TimedClosing, TimedDown}
use Rattle.locked_place.specs.Views.{LockedView, StampsAll, timed_entries}
use Rattle.locked_place.proofs.EntryTimes.{early, timed_on, untimed_timed, length_timed}
use Rattle.locked_place.proofs.EntryTimes.{length_all, prefix_untimed}

-- ---- the lists that a turn found and left

-- what a turn began with, and what it left
module _ (old begun new : LockedView) (clock time : ℕ)
    (in_time : AreTimed old.entries old.times old.latest)
    (now : begun ≡ record old { latest = time }) (stamps : StampsAll begun new) where
  abbrev more : List Entry
  more = stamps.more

  entered : new.entries ≡ old.entries ++ more
  entered = stamps.entered ∙ ap (λ (b : LockedView). b.entries ++ more) now

  stamped : new.times ≡ old.times ++ map (λ e. time) more
  stamped =
      stamps.stamped ∙ ap (λ (b : LockedView). b.times ++ map (λ e. b.latest) more) now

  as_many : length new.times ≡ length new.entries
  as_many =
      ap length stamped
      ∙ length-append old.times (map (λ (e : Entry). time) more)
      ∙ omega (
        arith,
        in_time.as_many,
        length_all time more,
        ap length entered,
        length-append old.entries more,
      )

  list_on : timed_entries new ≡ timed_entries old ++ all_at time more
  list_on =
      ap (λ (xs : List Entry). timed xs new.times) entered
      ∙ ap (λ (ts : List ℕ). timed (old.entries ++ more) ts) stamped
      ∙ timed_on old.entries old.times time more in_time.as_many

  old_plain : untimed (timed_entries old) ≡ old.entries
  old_plain = untimed_timed old.entries old.times in_time.as_many

  new_plain : untimed (timed_entries new) ≡ new.entries
  new_plain = untimed_timed new.entries new.times as_many

  same_places : places_after (timed_entries old) (timed_entries new)
      ≡ places_after old.entries new.entries
  same_places =
      ap (λ n. range_with_len n (length (timed_entries new) - n))
      (length_timed old.entries old.times in_time.as_many)
      ∙ ap (λ n. range_with_len (length old.entries) (n - length old.entries))
      (length_timed new.entries new.times as_many)

  -- the lock's list goes on
  pub list_begins : (held : LockedView) (list : List (Entry × ℕ)) → old ≡ held →
      list ≡ timed_entries held → IsPrefix list (timed_entries new)
  list_begins held list here is =
      subst (λ (l : List (Entry × ℕ)). IsPrefix l (timed_entries new))
      (sym (is ∙ ap (λ (h : LockedView). timed_entries h) (sym here)))
      (all_at time more, sym list_on)

  -- a turn of a pass
  module _ {S : Type 0} (v w : View (Entry × ℕ) S) (ticket : ℕ)
      (later : (clock < time) × (old.latest < time)) (begins : IsPrefix v.seen (timed_entries old))
      (left : w
      ≡ left_view (with_turn v (Served ticket (timed_entries old))) (timed_entries new)) where
    -- without times it is a turn
    plain_turn : IsTurn (plain_view v) old.entries new.entries (plain_view w)
    plain_turn = record {
      begins = subst (λ (es : List Entry). IsPrefix (untimed v.seen) es) old_plain
          (prefix_untimed v.seen (timed_entries old) begins);
      grows = (more, sym entered);
      left = ap (λ (x : View (Entry × ℕ) S). plain_view x) left
          ∙ ap (λ (es : List Entry). record (turned (plain_view v) old.entries new.entries) {
            seen = es;
            own = v.own ++ places_after (timed_entries old) (timed_entries new);
          }) new_plain
          ∙ ap (λ (places : List ℕ). record (turned (plain_view v) old.entries new.entries) {
            own = v.own ++ places;
          }) same_places;
    }

    -- and it takes its time
    takes_time : TakesTime clock time v w old.entries new.entries
    takes_time = record {
      later = later.0;
      found = timed_entries old;
      more = more;
      begins = begins;
      early = early old.entries 0 old.times old.latest time in_time.rise later.1;
      seen = ap (λ (x : View (Entry × ℕ) S). x.seen) left ∙ list_on;
      found_plain = old_plain;
      left_plain = entered;
    }

    seen_plain : untimed w.seen ≡ new.entries
    seen_plain = ap (λ (x : View (Entry × ℕ) S). untimed x.seen) left ∙ new_plain

    seen_length : length w.seen ≡ length new.entries
    seen_length =
        ap (λ (x : View (Entry × ℕ) S). length x.seen) left
        ∙ length_timed new.entries new.times as_many

-- nothing was appended
pub stamps_none : (v : LockedView) → StampsAll v v
stamps_none v = record {
  more = [];
  entered = sym (append-nil v.entries);
  stamped = sym (append-nil v.times);
  same = refl;
}

-- ---- turns

-- a turn that found and left these lists
pub record Taken {S : Type 0} (clock time : ℕ) (v w : View (Entry × ℕ) S)
    (before after : List Entry) : Type 0 where
  pub plain : IsTurn (plain_view v) before after (plain_view w)
  pub in_time : TakesTime clock time v w before after
  pub seen : untimed w.seen ≡ after
  pub as_long : length w.seen ≡ length after

-- what a pass and its lock say of a turn
pub taken : {S : Type 0} (v inside w : View (Entry × ℕ) S) (held old begun new : LockedView)
    (clock time : ℕ) → old ≡ held → AreTimed old.entries old.times old.latest →
    (clock < time) × (old.latest < time) → begun ≡ record old { latest = time } →
    StampsAll begun new → IsPrefix v.seen (timed_entries held) →
    ((ticket : ℕ) × (inside ≡ with_turn v (Served ticket (timed_entries held)))) →
    w ≡ left_view inside (timed_entries new) → Taken clock time v w begun.entries new.entries
taken {S} v inside w held old begun new clock time here in_time later now stamps begins entry_
    left =
    let begins_here =
    subst (λ (h : LockedView). IsPrefix v.seen (timed_entries h)) (sym here) begins in
    let left_here : w
    ≡ left_view (with_turn v (Served entry_.0 (timed_entries old))) (timed_entries new) =
    left
    ∙ ap (λ (i : View (Entry × ℕ) S). left_view i (timed_entries new)) entry_.1
    ∙ ap (λ (h : LockedView).
    left_view (with_turn v (Served entry_.0 (timed_entries h))) (timed_entries new)) (sym here) in
    subst (λ (b : List Entry). Taken clock time v w b new.entries)
    (sym (ap (λ (b : LockedView). b.entries) now))
    (record {
      plain = plain_turn old begun new clock time in_time now stamps v w entry_.0 later begins_here
          left_here;
      in_time = takes_time old begun new clock time in_time now stamps v w entry_.0 later
          begins_here left_here;
      seen = seen_plain old begun new clock time in_time now stamps v w entry_.0 later begins_here
          left_here;
      as_long = seen_length old begun new clock time in_time now stamps v w entry_.0 later
          begins_here left_here;
    })

-- ---- what happened in them

module _ {S : Type 0} {clock time : ℕ} {v w : View (Entry × ℕ) S} {before after : List Entry}
    (turn : Taken clock time v w before after) (legal : AreLegal after) where
  pub looks : after ≡ before → TimedLook clock time v w
  looks same =
      let on : Taken clock time v w before before =
      subst (λ (l : List Entry). Taken clock time v w before l) same turn in
      record {
        plain = record {
          found = before;
          turn = on.plain;
          legal = subst (λ (l : List Entry). AreLegal l) same legal;
        };
        in_time = on.in_time;
      }

  pub looks_where : {A B : Type 0} (r : Result A B) → OnErr r (after ≡ before) →
      OnErr r (TimedLook clock time v w)
  looks_where (Ok x) same = tt
  looks_where (Err e) same = looks same

  pub looks_with : {A B : Type 0} (r : Result A B) (P : Type 0) →
      OnErr r ((after ≡ before) × P) → OnErr r (TimedLook clock time v w × P)
  looks_with (Ok x) P same = tt
  looks_with (Err e) P same = (looks same.0, same.1)

  pub arrived : {B : Type 0} (a : Arrival) (r : Result Placed B) →
      IfOk r (Arrives a before after) → IfOk r (TimedArrival clock time a v w)
  arrived a (Ok placed) arrives =
      record {
        plain = record {
          found = before;
          then_ = after;
          turn = turn.plain;
          arrives = arrives;
          legal = legal;
        };
        in_time = turn.in_time;
      }
  arrived a (Err e) arrives = tt

  pub asked : {B : Type 0} (port call : ℕ) (request : Request)
      (handed : List (Card × Decision)) (r : Result ℕ B) →
      IfOk r (Asks port call request before after) →
      OnOk r (handed ≡ handed_by port call request before) →
      IfOk r (λ errno. TimedRequest clock time port call request v w errno handed)
  asked port call request handed (Ok errno) asks by =
      record {
        plain = record {
          found = before;
          then_ = after;
          turn = turn.plain;
          asks = asks;
          legal = legal;
          handed_out = by;
        };
        in_time = turn.in_time;
      }
  asked port call request handed (Err e) asks by = tt

  pub closed : (port count : ℕ) → after ≡ before ++ closings port before →
      count ≡ told (taken_in (closings port before)) → TimedClosing clock time port v w count
  closed port count same counted =
      let on : Taken clock time v w before (before ++ closings port before) =
      subst (λ (l : List Entry). Taken clock time v w before l) same turn in
      record {
        plain = record {
          found = before;
          turn = on.plain;
          legal = subst (λ (l : List Entry). AreLegal l) same legal;
          counted = counted;
        };
        in_time = on.in_time;
      }

  pub went_down : {B : Type 0} (device : ℕ) (r : Result ℕ B) →
      OnOk r (after ≡ before ++ downs device before) →
      IfOk r (λ count. count ≡ told (taken_in (downs device before))) →
      IfOk r (TimedDown clock time device v w)
  went_down device (Ok count) same counted =
      let on : Taken clock time v w before (before ++ downs device before) =
      subst (λ (l : List Entry). Taken clock time v w before l) same turn in
      record {
        plain = record {
          found = before;
          turn = on.plain;
          legal = subst (λ (l : List Entry). AreLegal l) same legal;
          counted = counted;
        };
        in_time = on.in_time;
      }
  went_down device (Err e) same counted = tt
