-- What a pass knows, and what each call makes of it.
use Rattle.std.specs.Prelude.{List, [], ◌++◌, length, Option, Some, None}
use Rattle.std.specs.Option.{option_map}
use Rattle.turn_lock.specs.declared.view.View.{View}
use Rattle.turn_lock.specs.declared.view.Turn.{Turn}
use Rattle.turn_lock.specs.declared.view.Turn.TheVariants.{Outside, Joined}
use Rattle.turn_lock.specs.Parts.{Whole, Empty, union, cut, kept}
use Rattle.turn_lock.specs.Places.{merged, longer, places_after, IsPlaced, Ascends-prop}
use Rattle.turn_lock.specs.Turns.{entered}

module _ {E S : Type 0} where
  -- the first pass of a lock: it has seen nothing, and has the whole
  abbrev pub opening_view : S → View E S
  opening_view state =
      record { seen = []; own = []; part = Whole; origin = Some state; turn = Outside }

  -- a pass that was joined into another
  abbrev pub spent_view : View E S
  spent_view = record { seen = []; own = []; part = Empty; origin = None; turn = Outside }

  abbrev pub with_turn : View E S → Turn E → View E S
  with_turn v turn = record v { turn = turn }

  -- a turn that left this list: it was seen, and the places that it has beyond the list that was
  -- entered are the pass's own
  abbrev pub left_view : View E S → List E → View E S
  left_view v list =
      record {
        seen = list;
        own = v.own ++ places_after (entered v.turn) list;
        part = v.part;
        origin = v.origin;
        turn = Outside;
      }

  -- a pass after a split
  abbrev pub kept_view : View E S → View E S
  kept_view v = record v { part = kept v.part }

  -- the pass that a split makes: it has seen the same, and has appended nothing
  abbrev pub split_view : View E S → View E S
  split_view v =
      record { seen = v.seen; own = []; part = cut v.part; origin = v.origin; turn = Outside }

  -- two passes in one
  abbrev pub joined_view : View E S → View E S → View E S
  joined_view v w =
      record {
        seen = longer v.seen w.seen;
        own = merged v.own w.own;
        part = union v.part w.part;
        origin = v.origin;
        turn = Outside;
      }

  -- the same between the two steps of a join
  abbrev pub joining_view : View E S → View E S → View E S
  joining_view v w = with_turn (joined_view v w) (Joined v.seen w.seen v.own w.own)

  -- its own entries are among those that it has seen: their places ascend in that list
  abbrev pub HasSeenOwn : View E S → Type 0
  HasSeenOwn v = IsPlaced v.seen v.own

  pub HasSeenOwn-prop : (v : View E S) → IsProp (HasSeenOwn v)
  HasSeenOwn-prop v = Ascends-prop 0 (length v.seen) v.own

module _ {E S L : Type 0} where
  -- the label of the state that the lock was made with
  abbrev pub label_of : (S → L) → View E S → Option L
  label_of label v = option_map label v.origin
