-- Lines are put into a history, item by item, exactly where they can be put into it.
use Rattle.std.proofs.Common.{◌≡◌, ◌≤◌, ℕ, List, [], ◌∷◌, ◌++◌, Option, None, refl, ap, subst}
use Rattle.std.proofs.Common.{inl, inr}
use Rattle.std.specs.Prelude.{flat_map}
use Rattle.queue_core.specs.State.{Bound}
use Rattle.queue_core.specs.Step.{step}
use Rattle.queue_core.specs.declared.event.Event.TheVariants.{DeviceDown}
use Rattle.histories.specs.declared.entry.Entry.{Entry}
use Rattle.script_lines.specs.declared.line.Down.{Down}
use Rattle.run_parts.specs.Ascending.{AscendFrom}
use Rattle.run_parts.specs.Feeder.{Item, Was, Fell, Passed, entries_of, lines_of, times_of}
use Rattle.run_parts.specs.Feeder.{times_of_event, IsNoDown, AreItemsFrom, IsFed, falling_time}
use Rattle.feeder_audit.specs.Fitting.{last_of, Fits}
use Rattle.feeder_audit.proofs.RowMeaning.{was_fits, passes}

-- ---- times one after the other

ascend_parts : (t : ℕ) (xs ys : List ℕ) → AscendFrom t (xs ++ ys) →
    AscendFrom t xs × AscendFrom (last_of t xs) ys
ascend_parts t [] ys ascend = (tt, ascend)
ascend_parts t (x ∷ xs) ys ascend =
    let parts = ascend_parts x xs ys ascend.1 in ((ascend.0, parts.0), parts.1)

ascend_both : (t : ℕ) (xs ys : List ℕ) → AscendFrom t xs → AscendFrom (last_of t xs) ys →
    AscendFrom t (xs ++ ys)
ascend_both t [] ys first second = second
ascend_both t (x ∷ xs) ys first second = (first.0, ascend_both x xs ys first.1 second)

-- ---- items

fits_from : (q : Option Bound) (t : ℕ) (is : List Item) → AreItemsFrom q is →
    AscendFrom t (flat_map times_of is) → Fits q t (flat_map lines_of is) (flat_map entries_of is)
fits_from q t [] each times = tt
fits_from q t (Was e ∷ is) each times =
    let parts = ascend_parts t (times_of_event e.event) (flat_map times_of is) times in
    was_fits q t (flat_map lines_of is) e (flat_map entries_of is) each.0 parts.0
    (fits_from (step q e.event).state (last_of t (times_of_event e.event)) is each.1 parts.1)
fits_from q t (Fell d e ∷ is) each times =
    inr (inl (
      each.0,
      times.0,
      fits_from (step q e.event).state (falling_time d.after) is each.1 times.1,
    ))
fits_from q t (Passed d ∷ is) each times =
    passes q t d (flat_map lines_of is) (flat_map entries_of is) each.0 times.0
    (fits_from q (falling_time d.after) is each.1 times.1)

-- from a state and a time on
record IsFedFrom (q : Option Bound) (t : ℕ) (ds : List Down) (h : List Entry) : Type 0 where
  pub items : List Item
  pub entries : flat_map entries_of items ≡ h
  pub lines : flat_map lines_of items ≡ ds
  pub each : AreItemsFrom q items
  pub times : AscendFrom t (flat_map times_of items)

module _ (q : Option Bound) (t : ℕ) (ds : List Down) where
  with_was : (e : Entry) (es : List Entry) → IsNoDown e.event →
      AscendFrom t (times_of_event e.event) →
      IsFedFrom (step q e.event).state (last_of t (times_of_event e.event)) ds es →
      IsFedFrom q t ds (e ∷ es)
  with_was e es plain ascend fed = record {
    items = Was e ∷ fed.items;
    entries = ap (λ fs. e ∷ fs) fed.entries;
    lines = fed.lines;
    each = (plain, fed.each);
    times = ascend_both t (times_of_event e.event) (flat_map times_of fed.items) ascend fed.times;
  }

  with_fell : (d : Down) (e : Entry) (es : List Entry) → e.event ≡ DeviceDown d.device →
      t ≤ falling_time d.after →
      IsFedFrom (step q e.event).state (falling_time d.after) ds es →
      IsFedFrom q t (d ∷ ds) (e ∷ es)
  with_fell d e es is late fed = record {
    items = Fell d e ∷ fed.items;
    entries = ap (λ fs. e ∷ fs) fed.entries;
    lines = ap (λ ls. d ∷ ls) fed.lines;
    each = (is, fed.each);
    times = (late, fed.times);
  }

  with_passed : (d : Down) (h : List Entry) → q ≡ None → t ≤ falling_time d.after →
      IsFedFrom q (falling_time d.after) ds h → IsFedFrom q t (d ∷ ds) h
  with_passed d h none late fed = record {
    items = Passed d ∷ fed.items;
    entries = fed.entries;
    lines = ap (λ ls. d ∷ ls) fed.lines;
    each = (none, fed.each);
    times = (late, fed.times);
  }

items_of : (q : Option Bound) (ds : List Down) (h : List Entry) (t : ℕ) → Fits q t ds h →
    IsFedFrom q t ds h
items_of q [] [] t fits = record {
  items = [];
  entries = refl;
  lines = refl;
  each = tt;
  times = tt;
}
items_of q (d ∷ ds) [] t fits =
    with_passed q t ds d [] fits.0 fits.1 (items_of q ds [] (falling_time d.after) fits.2)
items_of q [] (e ∷ es) t fits =
    with_was q t [] e es fits.0 fits.1
    (items_of (step q e.event).state [] es (last_of t (times_of_event e.event)) fits.2)
items_of q (d ∷ ds) (e ∷ es) t (inl was) =
    with_was q t (d ∷ ds) e es was.0 was.1
    (items_of (step q e.event).state (d ∷ ds) es (last_of t (times_of_event e.event)) was.2)
items_of q (d ∷ ds) (e ∷ es) t (inr (inl fell)) =
    with_fell q t ds d e es fell.0 fell.1
    (items_of (step q e.event).state ds es (falling_time d.after) fell.2)
items_of q (d ∷ ds) (e ∷ es) t (inr (inr pass)) =
    with_passed q t ds d (e ∷ es) pass.0 pass.1
    (items_of q ds (e ∷ es) (falling_time d.after) pass.2)

-- ---- whole histories

pub fits_if : (downs : List Down) (h : List Entry) → IsFed downs h → Fits None 0 downs h
fits_if downs h is =
    subst (λ ds. Fits None 0 ds h) is.lines
    (subst (λ es. Fits None 0 (flat_map lines_of is.items) es) is.entries
    (fits_from None 0 is.items is.each is.times))

pub is_fed_if : (downs : List Down) (h : List Entry) → Fits None 0 downs h → IsFed downs h
is_fed_if downs h fits =
    let is = items_of None downs h 0 fits in record {
      items = is.items;
      entries = is.entries;
      lines = is.lines;
      each = is.each;
      times = is.times;
    }
