-- Counts of a row of passes, of which the one at one place took a turn.
use Rattle.std.proofs.Common.{◌≡◌, ◌<◌, ℕ, List, length, refl, sym, ap, ◌∙◌, subst, arith}
use Rattle.std.specs.Prelude.{map, slice_get, slice_set, option_map, get_or, Some}
use Rattle.std.specs.BTreeMap.{BTreeMap}
use Rattle.std.proofs.lemmas.List.{map-set, length-map}
use Rattle.std.proofs.lemmas.Option.{slice_get_read, slice_get-map}
use Rattle.turn_lock.specs.declared.storied.Storied.{Ghosts}
use Rattle.turn_lock.specs.declared.pass.Pass.{Pass}
use Rattle.turn_lock.specs.Passes.{view_of}
use Rattle.histories.specs.declared.entry.Entry.{Entry}
use Rattle.locked_place.specs.Views.{LockedView}
use Rattle.locked_place.specs.Passes.{plain_view_of}
use Rattle.locked_place.specs.Times.{plain_view}
use Rattle.place_rows.specs.Rows.{Known, known_of}
use Rattle.place_turns.specs.Counts.{IsCounted, AreCounted}
use Rattle.place_turns.proofs.NoticeCounts.{counts_there, counts_set, counts_still}

module _ {g : Ghosts LockedView (Entry × ℕ)} (row : List (Pass LockedView (Entry × ℕ) g))
    (counts : List (BTreeMap ℕ ℕ)) (k : ℕ) (are : AreCounted (known_of (map view_of row)) counts)
    (there : k < length row) where
  -- what the pass there knows without times
  plain_there : (pass : Pass LockedView (Entry × ℕ) g) → pass ≡ get_or row k pass →
      slice_get (known_of (map view_of row)) k ≡ Some (plain_view_of pass)
  plain_there pass is =
      slice_get-map plain_view (map view_of row) k
      ∙ ap (option_map plain_view) (slice_get-map view_of row k
      ∙ ap (option_map view_of) (slice_get_read row (length row) k pass refl there is))

  plain_set : (new : Pass LockedView (Entry × ℕ) g) →
      known_of (map view_of (slice_set row k new))
      ≡ slice_set (known_of (map view_of row)) k (plain_view_of new)
  plain_set new =
      ap known_of (map-set view_of row k new) ∙ map-set plain_view (map view_of row) k (view_of new)

  plain_inside : k < length (known_of (map view_of row))
  plain_inside =
      omega (arith, length-map (map view_of row) plain_view, length-map row view_of, there)

  -- the counts of the pass there
  pub counted_there : (pass : Pass LockedView (Entry × ℕ) g) (c : BTreeMap ℕ ℕ) →
      pass ≡ get_or row k pass → c ≡ get_or counts k c → IsCounted (plain_view_of pass) c
  counted_there pass c is has =
      counts_there (known_of (map view_of row)) counts k (plain_view_of pass) c are
      (plain_there pass is)
      (slice_get_read counts (length counts) k c refl (omega (arith, are.as_many, plain_inside))
      has)

  -- it and its counts changed
  pub counted_set : (new : Pass LockedView (Entry × ℕ) g) (c : BTreeMap ℕ ℕ) →
      IsCounted (plain_view_of new) c →
      AreCounted (known_of (map view_of (slice_set row k new))) (slice_set counts k c)
  counted_set new c is =
      subst (λ (known : List Known). AreCounted known (slice_set counts k c))
      (sym (plain_set new))
      (counts_set (known_of (map view_of row)) counts k (plain_view_of new) c are plain_inside is)

  -- it changed alone, in a turn that sent nothing
  pub counted_kept : (old new : Pass LockedView (Entry × ℕ) g) → old ≡ get_or row k old →
      ((c : BTreeMap ℕ ℕ) → IsCounted (plain_view_of old) c → IsCounted (plain_view_of new) c) →
      AreCounted (known_of (map view_of (slice_set row k new))) counts
  counted_kept old new is keeps =
      subst (λ (known : List Known). AreCounted known counts) (sym (plain_set new))
      (counts_still (known_of (map view_of row)) counts k (plain_view_of old) (plain_view_of new)
      are (plain_there old is) keeps)
