-- The feeder: each move keeps the lines that can be put into each queue's history.
use Rattle.std.proofs.Common.{◌≡◌, ◌≤◌, ◌<◌, ◌∙◌, ◌+◌, ◌*◌, ℕ, List, [], ◌∷◌, ◌++◌, Option}
use Rattle.std.proofs.Common.{Some, None, Bool, true, false, refl, sym, ap, subst, inl, inr, arith}
use Rattle.std.proofs.Common.{append-nil, append_assoc}
use Rattle.std.specs.Prelude.{flat_map, ◌==◌, if◌then◌else◌}
use Rattle.std.proofs.lemmas.List.Concat.{flat_map-append}
use Rattle.std.proofs.lemmas.List.Elements.{filter-append}
use Rattle.queue_core.specs.State.{Bound}
use Rattle.queue_core.specs.declared.event.Event.TheVariants.{PortClosed, DeviceDown}
use Rattle.histories.specs.declared.entry.Entry.{Entry}
use Rattle.histories.specs.Numbers.{queue_count}
use Rattle.histories.specs.History.{history, is_of, replay, replay_from}
use Rattle.histories.specs.States.{entry_in, state_of}
use Rattle.histories.specs.Happenings as happening
use Rattle.script_lines.specs.declared.line.Down.{Down}
use Rattle.run_parts.specs.Feeder.{Item, Was, Fell, Passed}
use Rattle.run_parts.specs.Feeder.{entries_of, lines_of, IsItem, IsNoDown}
use Rattle.run_parts.specs.Feeder.{AreItemsFrom, times_of, times_of_event}
use Rattle.histories.specs.QueueHistories.{replay_on}
use Rattle.run_parts.proofs.AscendingNumbers.{rise_push, rise_later, history_push}
use Rattle.run_parts.specs.Feeder.{IsFed}
use Rattle.run_parts.specs.Underway.{Rise, IsNow, Fed, AllFed}

-- ---- one item more

items_push : (q : Option Bound) (is : List Item) (i : Item) → AreItemsFrom q is →
    IsItem (replay_from q (flat_map entries_of is)) i → AreItemsFrom q (is ++ i ∷ [])
items_push q [] i are next = (next, tt)
items_push q (j ∷ is) i are next = (
  are.0,
  items_push (replay_from q (entries_of j)) is i are.1
      (subst (λ p. IsItem p i) (replay_on q (entries_of j) (flat_map entries_of is)) next),
)

pub nothing_fed : Fed 0 [] []
nothing_fed = record {
  items = [];
  entries = refl;
  lines = refl;
  each = tt;
  times = record { ascend = tt; last = omega arith };
}

pub fed_later : (t u : ℕ) (fallen more : List Down) (h : List Entry) → t ≤ u → fallen ≡ more →
    Fed t fallen h → Fed u more h
fed_later t u fallen more h less same is = record {
  items = is.items;
  entries = is.entries;
  lines = is.lines ∙ same;
  each = is.each;
  times = rise_later t u (flat_map times_of is.items) less is.times;
}

fed_push : (time : ℕ) (fallen : List Down) (h : List Entry) (i : Item) →
    IsItem (replay h) i → IsNow time (times_of i) → Fed time fallen h →
    Fed time (fallen ++ lines_of i) (h ++ entries_of i)
fed_push time fallen h i item now is = record {
  items = is.items ++ i ∷ [];
  entries = flat_map-append entries_of is.items (i ∷ [])
      ∙ ap (λ es. es ++ (entries_of i ++ [])) is.entries
      ∙ ap (λ es. h ++ es) (append-nil (entries_of i));
  lines = flat_map-append lines_of is.items (i ∷ [])
      ∙ ap (λ ls. ls ++ (lines_of i ++ [])) is.lines
      ∙ ap (λ ls. fallen ++ ls) (append-nil (lines_of i));
  each = items_push None is.items i is.each
      (subst (λ es. IsItem (replay es) i) (sym is.entries) item);
  times = subst (Rise time) (sym (flat_map-append times_of is.items (i ∷ [])
      ∙ ap (λ ts. flat_map times_of is.items ++ ts) (append-nil (times_of i))))
      (rise_push time (flat_map times_of is.items) (times_of i) now is.times);
}

-- ---- all queues

pub all_later : (t u : ℕ) (fallen more : List Down) (es : List Entry) → t ≤ u → fallen ≡ more →
    AllFed t fallen es → AllFed u more es
all_later t u fallen more es less same is = record {
  each = λ queue below. fed_later t u fallen more (history queue es) less same
      (is.each queue below);
}

-- the first arrival of a frame
twice_push : (k : ℕ) (xs : List ℕ) → Rise k xs → Rise (k + 1) (xs ++ k ∷ (k + 1) ∷ [])
twice_push k xs is =
    subst (Rise (k + 1)) (append_assoc xs (k ∷ []) ((k + 1) ∷ []))
    (rise_push (k + 1) (xs ++ k ∷ []) ((k + 1) ∷ []) (inr refl)
    (rise_later k (k + 1) (xs ++ k ∷ []) (omega arith) (rise_push k xs (k ∷ []) (inr refl) is)))

first_fed : (time number : ℕ) (fallen : List Down) (h : List Entry) (e : Entry) →
    IsNoDown e.event → times_of_event e.event ≡ 2 * number ∷ (2 * number + 1) ∷ [] →
    time ≤ 2 * number → Fed time fallen h → Fed (2 * number + 1) fallen (h ++ e ∷ [])
first_fed time number fallen h e plain now less is = record {
  items = is.items ++ Was e ∷ [];
  entries = flat_map-append entries_of is.items (Was e ∷ [])
      ∙ ap (λ es. es ++ e ∷ []) is.entries;
  lines = flat_map-append lines_of is.items (Was e ∷ [])
      ∙ append-nil (flat_map lines_of is.items) ∙ is.lines;
  each = items_push None is.items (Was e) is.each plain;
  times = subst (Rise (2 * number + 1)) (sym (flat_map-append times_of is.items (Was e ∷ [])
      ∙ ap (λ ts. flat_map times_of is.items ++ ts)
      (append-nil (times_of_event e.event) ∙ now)))
      (twice_push (2 * number) (flat_map times_of is.items)
      (rise_later time (2 * number) (flat_map times_of is.items) less is.times));
}

pub entry_first_fed : (time number : ℕ) (fallen : List Down) (es : List Entry) (e : Entry) →
    IsNoDown e.event → times_of_event e.event ≡ 2 * number ∷ (2 * number + 1) ∷ [] →
    time ≤ 2 * number → AllFed time fallen es → AllFed (2 * number + 1) fallen (es ++ e ∷ [])
entry_first_fed time number fallen es e plain now less is = record {
  each = λ queue below. history_push (Fed (2 * number + 1) fallen) queue es e
      (fed_later time (2 * number + 1) fallen fallen (history queue es) (omega (arith, less)) refl
      (is.each queue below))
      (first_fed time number fallen (history queue es) e plain now less (is.each queue below));
}

-- an entry that isn't a device that goes down
pub entry_fed : (time : ℕ) (fallen : List Down) (es : List Entry) (e : Entry) → IsNoDown e.event →
    IsNow time (times_of_event e.event) → AllFed time fallen es →
    AllFed time fallen (es ++ e ∷ [])
entry_fed time fallen es e plain now is = record {
  each = λ queue below. history_push (Fed time fallen) queue es e (is.each queue below)
      (subst (λ ls. Fed time ls (history queue es ++ e ∷ [])) (append-nil fallen)
      (fed_push time fallen (history queue es) (Was e) plain now (is.each queue below)));
}

-- what the queues do when a port closes, and when a device goes down
abbrev pub ClosingLaw : Type 0
ClosingLaw = (port queue : ℕ) (es : List Entry) → queue < queue_count →
    history queue (happening.closings port es) ≡ happening.closing_of port queue (state_of es queue)

abbrev pub DownLaw : Type 0
DownLaw = (device queue : ℕ) (es : List Entry) → queue < queue_count →
    history queue (happening.downs device es) ≡ happening.down_of device queue (state_of es queue)

closing_fed : (time : ℕ) (fallen : List Down) (port queue : ℕ) (h : List Entry) (o : Option Bound) →
    Fed time fallen h → Fed time fallen (h ++ happening.closing_of port queue o)
closing_fed time fallen port queue h None is = subst (Fed time fallen) (sym (append-nil h)) is
closing_fed time fallen port queue h (Some b) is = by (b.port == port)
  where
    e : Entry
    e = entry_in queue (Some b)
        (PortClosed port)

    by : (c : Bool) → Fed time fallen (h ++ (if c then e ∷ [] else []))
    by true = subst (λ ls. Fed time ls (h ++ e ∷ [])) (append-nil fallen)
        (fed_push time fallen h (Was e) tt (inl refl) is)
    by false = subst (Fed time fallen) (sym (append-nil h)) is

pub closings_fed : ClosingLaw → (time : ℕ) (fallen : List Down) (port : ℕ) (es : List Entry) →
    AllFed time fallen es → AllFed time fallen (es ++ happening.closings port es)
closings_fed law time fallen port es is = record {
  each = λ queue below. subst (Fed time fallen)
      (sym (filter-append (is_of queue) es (happening.closings port es)
      ∙ ap (λ fs. history queue es ++ fs) (law port queue es below)))
      (closing_fed time fallen port queue (history queue es) (state_of es queue)
      (is.each queue below));
}

down_fed : (fallen : List Down) (d : Down) (queue : ℕ) (h : List Entry) (o : Option Bound) →
    replay h ≡ o → Fed (2 * d.after + 1) fallen h →
    Fed (2 * d.after + 1) (fallen ++ d ∷ []) (h ++ happening.down_of d.device queue o)
down_fed fallen d queue h None at is =
    fed_push (2 * d.after + 1) fallen h (Passed d) at (inr refl) is
down_fed fallen d queue h (Some b) at is =
    fed_push (2 * d.after + 1) fallen h (Fell d (entry_in queue (Some b)
    (DeviceDown d.device))) refl
    (inr refl) is

pub downs_fed : DownLaw → (time : ℕ) (fallen : List Down) (d : Down) (es : List Entry) →
    time ≤ 2 * d.after + 1 → AllFed time fallen es →
    AllFed (2 * d.after + 1) (fallen ++ d ∷ []) (es ++ happening.downs d.device es)
downs_fed law time fallen d es less is = record {
  each = λ queue below. subst (Fed (2 * d.after + 1) (fallen ++ d ∷ []))
      (sym (filter-append (is_of queue) es (happening.downs d.device es)
      ∙ ap (λ fs. history queue es ++ fs) (law d.device queue es below)))
      (down_fed fallen d queue (history queue es) (state_of es queue) refl
      (fed_later time (2 * d.after + 1) fallen fallen (history queue es) less refl
      (is.each queue below)));
}

-- then it was fed
pub is_fed : (time : ℕ) (fallen : List Down) (h : List Entry) → Fed time fallen h → IsFed fallen h
is_fed time fallen h is = record {
  items = is.items;
  entries = is.entries;
  lines = is.lines;
  each = is.each;
  times = is.times.ascend;
}
