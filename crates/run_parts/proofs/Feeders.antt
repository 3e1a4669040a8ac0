-- One feeder feeds all frames.
use Rattle.std.proofs.Common.{◌≡◌, ◌∙◌, ◌-◌, ◌%◌, ℕ, List, [], ◌∷◌, ◌++◌, Bool, true, false}
use Rattle.std.proofs.Common.{refl, sym, ap, subst, arith}
use Rattle.std.proofs.Math.Nat.{mod-one}
use Rattle.std.specs.Prelude.{◌||◌, ◌==◌, flat_map, filter}
use Rattle.std.proofs.lemmas.Bool.{eq-eqb}
use Rattle.queue_core.specs.declared.event.Event.{Event}
use Rattle.queue_core.specs.declared.event.Event.TheVariants.{Arrive, Ask, PortClosed, DeviceDown}
use Rattle.histories.specs.declared.entry.Entry.{Entry}
use Rattle.script_lines.specs.declared.line.Down.{Down}
use Rattle.run_parts.specs.Feeder.{Item, Was, Fell, Passed, lines_of, times_of, times_of_event}
use Rattle.run_parts.specs.Feeder.{IsFed}
use Rattle.run_parts.specs.Ascending.{Ascend}
use Rattle.run_parts.specs.Feeder.{is_share, is_line_of, shared_times, times_in, IsFedBy}

all_shared : (n : ℕ) → is_share 1 0 n ≡ true
all_shared n = by (n == 0) ((n - 1) % 1 == 0) (eq-eqb ((n - 1) % 1) 0 (mod-one (n - 1)))
  where
    by : (b c : Bool) → c ≡ true → (b || c) ≡ true
    by true c is = refl
    by false c is = is

all_lines : (ds : List Down) → filter (is_line_of 1 0) ds ≡ ds
all_lines [] = refl
all_lines (d ∷ ds) = rw (all_shared d.after) (ap (λ es. d ∷ es) (all_lines ds))

same_event : (event : Event) → shared_times 1 0 event ≡ times_of_event event
same_event (Arrive card bypass room) = rw (all_shared card.number) refl
same_event (Ask port call request) = refl
same_event (PortClosed port) = refl
same_event (DeviceDown device) = refl

same_times : (i : Item) → times_in 1 0 i ≡ times_of i
same_times (Was e) = same_event e.event
same_times (Fell d e) = rw (all_shared d.after) refl
same_times (Passed d) = rw (all_shared d.after) refl

all_times : (is : List Item) → flat_map (times_in 1 0) is ≡ flat_map times_of is
all_times [] = refl
all_times (i ∷ is) = ap (λ ts. ts ++ flat_map (times_in 1 0) is) (same_times i)
    ∙ ap (λ ts. times_of i ++ ts) (all_times is)

pub one_feeder : (downs : List Down) (h : List Entry) → IsFed downs h → IsFedBy 1 downs h
one_feeder downs h is = record {
  items = is.items;
  entries = is.entries;
  each = is.each;
  lines = λ f below. ap (filter (is_line_of 1 f)) is.lines;
  times = λ f below. by f (omega (arith, below));
}
  where
    by : (f : ℕ) → f ≡ 0 → Ascend (flat_map (times_in 1 f) is.items)
    by f none = subst (λ g. Ascend (flat_map (times_in 1 g) is.items)) (sym none)
        (subst Ascend (sym (all_times is.items)) is.times)

pub by_one_feeder : (downs : List Down) (h : List Entry) → IsFedBy 1 downs h → IsFed downs h
by_one_feeder downs h is = record {
  items = is.items;
  entries = is.entries;
  lines = sym (all_lines (flat_map lines_of is.items)) ∙ is.lines 0 (omega arith) ∙ all_lines downs;
  each = is.each;
  times = subst Ascend (all_times is.items) (is.times 0 (omega arith));
}
