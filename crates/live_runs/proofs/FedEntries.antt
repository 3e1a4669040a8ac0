-- What so many feeders fed goes on with entries that are none of theirs.
use Rattle.std.proofs.Common.{◌++◌, ◌∙◌, ◌∷◌, ◌≡◌, Bool, List, None, Option, [], ap, append-nil}
use Rattle.std.proofs.Common.{append_assoc, false, refl, subst, sym, true, ℕ}
use Rattle.std.proofs.lemmas.List.Concat.{flat_map-append}
use Rattle.std.proofs.lemmas.List.Elements.{filter-append}
use Rattle.std.specs.Prelude.{filter, flat_map, if◌then◌else◌}
use Rattle.queue_core.specs.State.{Bound}
use Rattle.queue_core.specs.declared.event.Event.{Event}
use Rattle.queue_core.specs.declared.event.Event.TheVariants.{Arrive, Ask, DeviceDown, PortClosed}
use Rattle.histories.specs.History.{history, is_of, replay_from}
use Rattle.histories.specs.declared.entry.Entry.{Entry}
use Rattle.script_lines.specs.declared.line.Down.{Down}
use Rattle.run_parts.specs.Ascending.{Ascend}
use Rattle.run_parts.specs.Feeder.{AreItemsFrom, IsFed, IsFedBy, IsNoDown, Item, Was, entries_of}
use Rattle.run_parts.specs.Feeder.{is_line_of, is_share, lines_of, shared_times, times_in}
use Rattle.run_parts.specs.Feeder.{times_of_event}
use Rattle.live_runs.specs.Owners.{IsFedByAll, IsFeeding, IsNotFed}
use Rattle.live_runs.specs.Seen.{EachIs, Seen, all_theirs, entries}
use Rattle.live_runs.proofs.LowerLaws.{FeedingLaws}
use Rattle.live_runs.proofs.Marks.{each_theirs, entries_append, entries_theirs, theirs_front}
use Rattle.live_runs.proofs.Marks.{theirs_rest}

-- an entry that is no device that goes down is one more item
was_push : (q : Option Bound) (is : List Item) (e : Entry) → IsNoDown e.event →
    AreItemsFrom q is → AreItemsFrom q (is ++ Was e ∷ [])
was_push q [] e plain are = (plain, tt)
was_push q (i ∷ is) e plain are =
    (are.0, was_push (replay_from q (entries_of i)) is e plain are.1)

-- what takes up no time takes up none of a share's
no_times : (feeders f : ℕ) (event : Event) → times_of_event event ≡ [] →
    shared_times feeders f event ≡ []
no_times feeders f (Arrive card bypass room) none =
    by (is_share feeders f card.number) (times_of_event (Arrive card bypass room)) none
  where
    by : (c : Bool) (ts : List ℕ) → ts ≡ [] → (if c then ts else []) ≡ []
    by true ts none = none
    by false ts none = refl
no_times feeders f (Ask port call request) none = refl
no_times feeders f (PortClosed port) none = refl
no_times feeders f (DeviceDown device) none = refl

one_more : (feeders : ℕ) (downs : List Down) (h : List Entry) (e : Entry) → IsNotFed e →
    IsFedBy feeders downs h → IsFedBy feeders downs (h ++ e ∷ [])
one_more feeders downs h e not_fed is = record {
  items = is.items ++ Was e ∷ [];
  entries = flat_map-append entries_of is.items (Was e ∷ [])
      ∙ ap (λ es. es ++ e ∷ []) is.entries;
  each = was_push None is.items e not_fed.0 is.each;
  lines = λ f below. ap (filter (is_line_of feeders f))
      (flat_map-append lines_of is.items (Was e ∷ []) ∙ append-nil (flat_map lines_of is.items))
      ∙ is.lines f below;
  times = λ f below. subst Ascend (sym (flat_map-append (times_in feeders f) is.items (Was e ∷ [])
      ∙ ap (λ ts. flat_map (times_in feeders f) is.items ++ (ts ++ []))
      (no_times feeders f e.event not_fed.1)
      ∙ append-nil (flat_map (times_in feeders f) is.items))) (is.times f below);
}

-- of any queue
one_entry : (feeders : ℕ) (downs : List Down) (queue : ℕ) (es : List Entry) (e : Entry) →
    IsNotFed e → IsFedBy feeders downs (history queue es) →
    IsFedBy feeders downs (history queue (es ++ e ∷ []))
one_entry feeders downs queue es e not_fed is =
    subst (IsFedBy feeders downs) (sym (filter-append (is_of queue) es (e ∷ [])))
    (by (is_of queue e))
  where
    by : (c : Bool) → IsFedBy feeders downs (history queue es ++ (if c then e ∷ [] else []))
    by true = one_more feeders downs (history queue es) e not_fed is
    by false = subst (IsFedBy feeders downs) (sym (append-nil (history queue es))) is

all_entries : (feeders : ℕ) (downs : List Down) (queue : ℕ) (es fs : List Entry) →
    EachIs IsNotFed fs → IsFedBy feeders downs (history queue es) →
    IsFedBy feeders downs (history queue (es ++ fs))
all_entries feeders downs queue es [] are is =
    subst (λ hs. IsFedBy feeders downs (history queue hs)) (sym (append-nil es)) is
all_entries feeders downs queue es (f ∷ fs) are is =
    subst (λ hs. IsFedBy feeders downs (history queue hs)) (append_assoc es (f ∷ []) fs)
    (all_entries feeders downs queue (es ++ f ∷ []) fs are.1
    (one_entry feeders downs queue es f are.0 is))

-- where their pass meets others
pub met_by_all : (feeders : ℕ) (downs : List Down) (xs : List Seen) (es : List Entry) →
    IsFedByAll feeders downs xs → IsFedByAll feeders downs (xs ++ all_theirs es)
met_by_all feeders downs xs es is = record {
  fed = λ guard queue below.
      subst (λ hs. IsFedBy feeders downs (history queue hs))
      (sym (entries_append xs (all_theirs es)
      ∙ ap (λ fs. entries xs ++ fs) (entries_theirs es)))
      (all_entries feeders downs queue (entries xs) es
      (each_theirs IsNotFed es (theirs_rest IsNotFed xs (all_theirs es) guard))
      (is.fed (theirs_front IsNotFed xs (all_theirs es) guard) queue below));
}

-- one feeder
pub one_by_all : FeedingLaws →
    ((downs : List Down) (h : List Entry) → IsFed downs h → IsFedBy 1 downs h) →
    (time : ℕ) (downs : List Down) (xs : List Seen) → IsFeeding time downs xs →
    IsFedByAll 1 downs xs
one_by_all laws one_feeder time downs xs is = record {
  fed = λ guard queue below. one_feeder downs (history queue (entries xs))
      (laws.fed time downs (history queue (entries xs)) ((is.fed guard).each queue below));
}
