-- A row of passes that told another, or was told: its counts still stand.
use Rattle.std.proofs.Common.{◌≡◌, ◌<◌, ℕ, zero, suc, List, [], ◌∷◌, length, refl, sym, ◌∙◌}
use Rattle.std.proofs.Common.{subst, arith}
use Rattle.std.specs.Prelude.{map, slice_get, Option, Some, None, IfSome}
use Rattle.std.specs.BTreeMap.{BTreeMap}
use Rattle.std.proofs.lemmas.Option.{slice_get_within}
use Rattle.turn_lock.specs.declared.storied.Storied.{Ghosts}
use Rattle.turn_lock.specs.declared.pass.Pass.{Pass}
use Rattle.turn_lock.specs.Passes.{view_of}
use Rattle.turn_lock.specs.Places.{Ascends}
use Rattle.turn_lock.specs.Views.{HasSeenOwn}
use Rattle.histories.specs.declared.entry.Entry.{Entry}
use Rattle.locked_place.specs.Views.{LockedView, PlaceLabel, label_of}
use Rattle.place_rows.specs.Meeting.{KeepsOwn}
use Rattle.locked_place.specs.Passes.{plain_view_of}
use Rattle.place_rows.specs.Rows.{Known, TimedKnown, AreKnown, ArePasses, IsKnown, known_of}
use Rattle.place_rows.specs.Rows.{label_at, lock_of}
use Rattle.place_turns.specs.declared.places.Places.{Places}
use Rattle.place_turns.specs.Counts.{most_entries, IsCounted, AreCounted}
use Rattle.place_turns.specs.Passes.{AreOf}
use Rattle.place_turns.proofs.AtPlace.{PlainKnown, WithTimes, still_of}
use Rattle.place_turns.proofs.NoticeCounts.{placed_so}
use Rattle.place_turns.proofs.PassTurns.{some_same}

pub item_at : {X : Type 0} (xs : List X) (k : ℕ) → k < length xs →
    (x : X) × (slice_get xs k ≡ Some x)
item_at [] k few = absurd (omega (arith, few))
item_at (x ∷ xs) zero few = (x, refl)
item_at (x ∷ xs) (suc k) few = item_at xs k (omega (arith, few))

-- each pass has seen the entries that are its own
pub all_seen_own : {g : Ghosts LockedView (Entry × ℕ)} (row : List (Pass LockedView (Entry × ℕ) g))
    (k : ℕ) (v : TimedKnown) → slice_get (map view_of row) k ≡ Some v → HasSeenOwn v
all_seen_own [] k v at = absurd (cc at)
all_seen_own (pass ∷ row) zero v at =
    subst (λ (w : TimedKnown). HasSeenOwn w) (some_same (view_of pass) v at) pass.placed
all_seen_own (pass ∷ row) (suc k) v at = all_seen_own row k v at

-- and so without times
pub all_placed : {g : Ghosts LockedView (Entry × ℕ)} (row : List (Pass LockedView (Entry × ℕ) g))
    (k : ℕ) (v : Known) → slice_get (known_of (map view_of row)) k ≡ Some v → HasSeenOwn v
all_placed [] k v at = absurd (cc at)
all_placed (pass ∷ row) zero v at =
    subst (λ (w : Known). HasSeenOwn w) (some_same (plain_view_of pass) v at)
    (placed_so (view_of pass) pass.placed)
all_placed (pass ∷ row) (suc k) v at = all_placed row k v at

counted_still_so : (named : PlaceLabel) (v w : Known) (counts : BTreeMap ℕ ℕ) →
    IsCounted v counts → IsKnown label_of named v → IsKnown label_of named w → KeepsOwn v w →
    IsCounted w counts
counted_still_so named v w counts is known then_ keeps = record {
  many = λ port. keeps.sent port ∙ is.many port;
  there = λ other named_so port some.
      is.there other (known.named_so ∙ sym then_.named_so ∙ named_so) port some;
  only = λ other named_so port some.
      is.only other (known.named_so ∙ sym then_.named_so ∙ named_so) port some;
  few = subst (Ascends 0 most_entries) (sym keeps.own) is.few;
}

counted_told : (named : ℕ → PlaceLabel) (olds news : List Known)
    (counts : List (BTreeMap ℕ ℕ)) → AreCounted olds counts → AreKnown label_of named olds →
    AreKnown label_of named news → length news ≡ length olds →
    ((k : ℕ) (v w : Known) → slice_get olds k ≡ Some v → slice_get news k ≡ Some w →
    KeepsOwn v w) →
    AreCounted news counts
counted_told named olds news counts are known then_ many keeps = record {
  as_many = are.as_many ∙ sym many;
  each = λ k w at.
      let v = item_at olds k (omega (arith, slice_get_within news k w at, many)) in
      inner k v.0 w v.1 at (slice_get counts k) (are.each k v.0 v.1);
}
  where
    inner : (k : ℕ) (v w : Known) → slice_get olds k ≡ Some v → slice_get news k ≡ Some w →
        (o : Option (BTreeMap ℕ ℕ)) → IfSome o (IsCounted v) → IfSome o (IsCounted w)
    inner k v w was at None is = tt
    inner k v w was at (Some c) is =
        counted_still_so (named k) v w c is (known k v was) (then_ k w at) (keeps k v w was at)

-- so a row that told, or was told, is counted as before
pub counted_after : {g : Ghosts LockedView (Entry × ℕ)} → PlainKnown → WithTimes →
    (places : Places) (row then_ : List (Pass LockedView (Entry × ℕ) g))
    (counts : List (BTreeMap ℕ ℕ)) → AreOf places (map lock_of row) (known_of (map view_of row)) →
    ((named : ℕ → PlaceLabel) → ArePasses label_of named places.locks.items row →
    ArePasses label_of named places.locks.items then_) →
    AreCounted (known_of (map view_of row)) counts →
    length (known_of (map view_of then_)) ≡ length (known_of (map view_of row)) →
    ((k : ℕ) (v w : Known) → slice_get (known_of (map view_of row)) k ≡ Some v →
    slice_get (known_of (map view_of then_)) k ≡ Some w → KeepsOwn v w) →
    AreCounted (known_of (map view_of then_)) counts
counted_after plain timed places row then_ counts is keeps are many own =
    counted_told (label_at places.outlets) (known_of (map view_of row))
    (known_of (map view_of then_)) counts are is.known_so
    (still_of timed places row is then_ keeps plain).known_so many own
