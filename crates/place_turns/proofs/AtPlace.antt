-- The pass of a row at one place of a places.
use Rattle.std.proofs.Common.{◌≡◌, ◌<◌, ℕ, List, length, arith, sym, ◌∙◌}
use Rattle.std.specs.Prelude.{map, slice_set, get_or}
use Rattle.std.proofs.lemmas.List.{length-map}
use Rattle.turn_lock.specs.declared.storied.Storied.{Ghosts}
use Rattle.turn_lock.specs.declared.pass.Pass.{Pass}
use Rattle.turn_lock.specs.declared.lock.TurnLock.{TurnLock}
use Rattle.turn_lock.specs.Passes.{view_of}
use Rattle.histories.specs.declared.entry.Entry.{Entry}
use Rattle.locked_place.specs.Passes.{IsPassOf}
use Rattle.locked_place.specs.Views.{LockedView, PlaceLabel, label_of, AreOutletsOf}
use Rattle.locked_place.specs.Times.{plain_view}
use Rattle.place_rows.specs.Rows.{TimedKnown, ArePasses, AreKnown, known_of, lock_of, label_at}
use Rattle.place_turns.specs.declared.places.Places.{Places}
use Rattle.place_turns.specs.Passes.{AreOf}
use Rattle.place_turns.proofs.Labels.{outlets_are}
use Rattle.place_turns.proofs.PassTurns.{as_many, pass_there, passes_set}

-- what the laws of rows say of what is known, with times and without
abbrev pub PlainKnown : Type 0
PlainKnown = (named : ℕ → PlaceLabel) (row : List TimedKnown) → AreKnown label_of named row →
    AreKnown label_of named (known_of row)

abbrev pub WithTimes : Type 0
WithTimes = (named : ℕ → PlaceLabel) (row : List TimedKnown) →
    AreKnown label_of named (known_of row) → AreKnown label_of named row

-- passes of the places' locks, from what they know without times, and back
pub passes_of : {g : Ghosts LockedView (Entry × ℕ)} → WithTimes → (places : Places)
    (row : List (Pass LockedView (Entry × ℕ) g)) →
    AreOf places (map lock_of row) (known_of (map view_of row)) →
    ArePasses label_of (label_at places.outlets) places.locks.items row
passes_of timed places row is = record {
  locks_are = is.locks_are;
  known = timed (label_at places.outlets) (map view_of row) is.known_so;
}

pub are_of : {g : Ghosts LockedView (Entry × ℕ)} → PlainKnown → (places : Places)
    (row : List (Pass LockedView (Entry × ℕ) g)) →
    ArePasses label_of (label_at places.outlets) places.locks.items row →
    AreOf places (map lock_of row) (known_of (map view_of row))
are_of plain places row are = record {
  locks_are = are.locks_are;
  as_many = length-map (map view_of row) plain_view ∙ length-map row view_of
      ∙ sym (length-map row lock_of);
  known_so = plain (label_at places.outlets) (map view_of row) are.known;
}

module _ {g : Ghosts LockedView (Entry × ℕ)} (timed : WithTimes) (places : Places)
    (row : List (Pass LockedView (Entry × ℕ) g))
    (is : AreOf places (map lock_of row) (known_of (map view_of row))) where
  -- two rows are of the same locks
  pub both_passes : (other : List (Pass LockedView (Entry × ℕ) g)) →
      AreOf places (map lock_of other) (known_of (map view_of other)) →
      (named : ℕ → PlaceLabel) × ArePasses label_of named places.locks.items row
      × ArePasses label_of named places.locks.items other
  both_passes other also = (
    label_at places.outlets,
    passes_of timed places row is,
    passes_of timed places other also,
  )

  -- a call that leaves passes of the locks
  module _ (then_ : List (Pass LockedView (Entry × ℕ) g))
      (keeps : (named : ℕ → PlaceLabel) → ArePasses label_of named places.locks.items row →
      ArePasses label_of named places.locks.items then_) where
    pub same_locks : map lock_of then_ ≡ map lock_of row
    same_locks =
        let are = passes_of timed places row is in
        (keeps (label_at places.outlets) are).locks_are ∙ sym are.locks_are

    pub still_of : PlainKnown → AreOf places (map lock_of then_) (known_of (map view_of then_))
    still_of plain =
        are_of plain places then_ (keeps (label_at places.outlets) (passes_of timed places row is))

-- a pass of a row is of the lock there, and after a turn all are passes of these locks again
pub record AtPlace {g : Ghosts LockedView (Entry × ℕ)} (places : Places)
    (row : List (Pass LockedView (Entry × ℕ) g)) (k : ℕ) (lock : TurnLock LockedView (Entry × ℕ))
    (pass : Pass LockedView (Entry × ℕ) g) : Type 0 where
  pub inside : k < length row
  pub has : pass ≡ get_or row k pass
  pub of : IsPassOf label_of (label_at places.outlets k) lock pass
  pub after : (new : Pass LockedView (Entry × ℕ) g) → (view_of new).part ≡ (view_of pass).part →
      ((named : PlaceLabel) → IsPassOf label_of named lock pass →
      IsPassOf label_of named lock new) →
      AreOf places (map lock_of (slice_set row k new))
      (known_of (map view_of (slice_set row k new)))

pub at_place : {g : Ghosts LockedView (Entry × ℕ)} → PlainKnown → WithTimes → (places : Places)
    (row : List (Pass LockedView (Entry × ℕ) g)) (k : ℕ)
    (lock : TurnLock LockedView (Entry × ℕ)) (pass : Pass LockedView (Entry × ℕ) g) →
    AreOf places (map lock_of row) (known_of (map view_of row)) →
    k < length places.locks.items → lock ≡ get_or places.locks.items k lock →
    pass ≡ get_or row k pass → AtPlace places row k lock pass
at_place plain timed places row k lock pass is there at has =
    let named = label_at places.outlets in
    let locks = places.locks.items in
    let all = passes_of timed places row is in
    let of = pass_there label_of named locks row k lock pass all there at has in
    record {
      inside = omega (arith, as_many label_of named locks row all, there);
      has = has;
      of = of;
      after = λ new part keeps.
          are_of plain places (slice_set row k new)
          (passes_set label_of named locks row k lock pass new all there at has part
          (keeps (named k) of));
    }

-- so the pass may take a turn at the place
pub enters : {g : Ghosts LockedView (Entry × ℕ)} {places : Places}
    {row : List (Pass LockedView (Entry × ℕ) g)} {k : ℕ} {lock : TurnLock LockedView (Entry × ℕ)}
    {pass : Pass LockedView (Entry × ℕ) g} → AtPlace places row k lock pass →
    (named : PlaceLabel) × IsPassOf label_of named lock pass × AreOutletsOf places.outlets named
enters {g} {places} {row} {k} at =
    (label_at places.outlets k, at.of, outlets_are places.outlets k)
