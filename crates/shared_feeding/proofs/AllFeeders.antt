-- Once all passes are joined, the place was fed by all feeders.
use Rattle.std.proofs.Common.{◌++◌, ◌<◌, ◌∙◌, ◌∷◌, ◌≡◌, ◌≤◌, ◌⊎◌, Bool, List, None, Option, [], ap}
use Rattle.std.proofs.Common.{arith, false, inl, inr, refl, subst, sym, true, ℕ}
use Rattle.std.proofs.lemmas.List.Concat.{flat_map-append}
use Rattle.std.proofs.lemmas.List.Elements.{filter-append}
use Rattle.std.specs.Prelude.{filter, flat_map, if◌then◌else◌, map}
use Rattle.queue_core.specs.State.{Bound}
use Rattle.queue_core.specs.declared.event.Event.{Event}
use Rattle.queue_core.specs.declared.event.Event.TheVariants.{Arrive, Ask, DeviceDown, PortClosed}
use Rattle.histories.specs.History.{history, is_of, replay, replay_from}
use Rattle.histories.specs.declared.entry.Entry.{Entry}
use Rattle.script_lines.specs.declared.line.Down.{Down}
use Rattle.inspector_script.specs.Scripts.{ScriptValue}
use Rattle.run_parts.specs.Ascending.{Ascend, AscendFrom}
use Rattle.run_parts.specs.Feeder.{AreItemsFrom, Fell, IsFedBy, Item, Passed, Was, downs_after}
use Rattle.run_parts.specs.Feeder.{downs_from, downs_in_effect, entries_of, falling_time}
use Rattle.run_parts.specs.Feeder.{is_line_of, is_share, lines_of, shared_times, times_in, times_of}
use Rattle.run_parts.specs.Feeder.{times_of_event}
use Rattle.run_parts.specs.Underway.{Fed}
use Rattle.live_runs.specs.Owners.{IsFedByAll, IsFeeding, IsNotFed}
use Rattle.live_runs.specs.Seen.{Ours, Seen, Theirs, TheirsAre, entries}
use Rattle.shared_feeding.specs.Joining.{AreJoined, AreSharesOf, own_times_in}
use Rattle.shared_feeding.specs.Lines.{share_downs}
use Rattle.shared_feeding.specs.Sights.{AreSightsFrom, AscendTo, Own, Saw, Sight, front_time}
use Rattle.shared_feeding.specs.Sights.{history_seen, item_of, own_lines, seen_of}
use Rattle.shared_feeding.proofs.FeederJoin.{if_none}
use Rattle.shared_feeding.proofs.ShareInvariant.{entries_append, entries_seen}
use Rattle.shared_feeding.proofs.ShareGrowth.{under, under_is}
use Rattle.histories.specs.QueueHistories.{replay_on}

-- ---- the guard

theirs_front : (Q : Entry → Type 0) (xs ys : List Seen) → TheirsAre Q (xs ++ ys) → TheirsAre Q xs
theirs_front Q [] ys are = tt
theirs_front Q (Ours e ∷ xs) ys are = theirs_front Q xs ys are
theirs_front Q (Theirs e ∷ xs) ys are = (are.0, theirs_front Q xs ys are.1)

theirs_rest : (Q : Entry → Type 0) (xs ys : List Seen) → TheirsAre Q (xs ++ ys) → TheirsAre Q ys
theirs_rest Q [] ys are = are
theirs_rest Q (Ours e ∷ xs) ys are = theirs_rest Q xs ys are
theirs_rest Q (Theirs e ∷ xs) ys are = theirs_rest Q xs ys are.1

theirs_seen : (Q : Entry → Type 0) (queue : ℕ) (xs : List Seen) → TheirsAre Q xs →
    TheirsAre Q (history_seen queue xs)
theirs_seen Q queue [] are = tt
theirs_seen Q queue (Ours e ∷ xs) are = by (is_of queue e) (theirs_seen Q queue xs are)
  where
    by : (c : Bool) → TheirsAre Q (history_seen queue xs) →
        TheirsAre Q (if c then Ours e ∷ history_seen queue xs else history_seen queue xs)
    by true rest = rest
    by false rest = rest
theirs_seen Q queue (Theirs e ∷ xs) are = by (is_of queue e) (theirs_seen Q queue xs are.1)
  where
    by : (c : Bool) → TheirsAre Q (history_seen queue xs) →
        TheirsAre Q (if c then Theirs e ∷ history_seen queue xs else history_seen queue xs)
    by true rest = (are.0, rest)
    by false rest = rest

abbrev SawAre : (Entry → Type 0) → List Sight → Type 0
SawAre Q [] = Unit {0}
SawAre Q (Saw e ∷ ss) = Q e × SawAre Q ss
SawAre Q (Own i ∷ ss) = SawAre Q ss

saw_are : (Q : Entry → Type 0) (ss : List Sight) → TheirsAre Q (flat_map seen_of ss) →
    SawAre Q ss
saw_are Q [] are = tt
saw_are Q (Saw e ∷ ss) are = (are.0, saw_are Q ss are.1)
saw_are Q (Own (Was e) ∷ ss) are = saw_are Q ss are
saw_are Q (Own (Fell d e) ∷ ss) are = saw_are Q ss are
saw_are Q (Own (Passed d) ∷ ss) are = saw_are Q ss are

-- ---- what is seen and done, as items

abbrev items : List Sight → List Item
items ss = map item_of ss

items_entries : (ss : List Sight) → flat_map entries_of (items ss) ≡ flat_map under ss
items_entries [] = refl
items_entries (s ∷ ss) = ap (λ l. under s ++ l) (items_entries ss)

items_lines : (ss : List Sight) → flat_map lines_of (items ss) ≡ flat_map own_lines ss
items_lines [] = refl
items_lines (Saw e ∷ ss) = items_lines ss
items_lines (Own i ∷ ss) = ap (λ l. lines_of i ++ l) (items_lines ss)

event_none : (feeders f : ℕ) (event : Event) → times_of_event event ≡ [] →
    shared_times feeders f event ≡ []
event_none feeders f (Arrive card bypass room) none =
    if_none (is_share feeders f card.number) (times_of_event (Arrive card bypass room)) none
event_none feeders f (Ask port call request) none = refl
event_none feeders f (PortClosed port) none = refl
event_none feeders f (DeviceDown device) none = refl

items_times : (feeders f : ℕ) (ss : List Sight) → SawAre IsNotFed ss →
    flat_map (times_in feeders f) (items ss) ≡ flat_map (own_times_in feeders f) ss
items_times feeders f [] are = refl
items_times feeders f (Saw e ∷ ss) are =
    ap (λ l. l ++ flat_map (times_in feeders f) (items ss))
    (event_none feeders f e.event are.0.1) ∙ items_times feeders f ss are.1
items_times feeders f (Own i ∷ ss) are =
    ap (λ l. times_in feeders f i ++ l) (items_times feeders f ss are)

items_are : (q : Option Bound) (ss : List Sight) → SawAre IsNotFed ss → AreSightsFrom q ss →
    AreItemsFrom q (items ss)
items_are q [] saw are = tt
items_are q (Saw e ∷ ss) saw are =
    (saw.0.0, items_are (replay_from q (e ∷ [])) ss saw.1 are.1)
items_are q (Own i ∷ ss) saw are =
    (are.0, items_are (replay_from q (entries_of i)) ss saw are.1)

items_append : (q : Option Bound) (xs ys : List Item) → AreItemsFrom q xs →
    AreItemsFrom (replay_from q (flat_map entries_of xs)) ys → AreItemsFrom q (xs ++ ys)
items_append q [] ys one two = two
items_append q (i ∷ xs) ys one two = (
  one.0,
  items_append (replay_from q (entries_of i)) xs ys one.1
      (subst (λ p. AreItemsFrom p ys) (replay_on q (entries_of i) (flat_map entries_of xs)) two),
)

-- ---- the times of a share among all times

lower : (low mid t : ℕ) (xs : List ℕ) → low ≤ mid → AscendTo mid t xs → AscendTo low t xs
lower low mid t [] less is = record { ascend = tt; last = omega (arith, less, is.last) }
lower low mid t (x ∷ xs) less is =
    record { ascend = (omega (arith, less, is.ascend.0), is.ascend.1); last = is.last }

drop_front : (low t : ℕ) (xs ys : List ℕ) → AscendTo low t (xs ++ ys) → AscendTo low t ys
drop_front low t [] ys is = is
drop_front low t (x ∷ xs) ys is = lower low x t ys is.ascend.0
    (drop_front x t xs ys (record { ascend = is.ascend.1; last = is.last }))

keep_front : (low t : ℕ) (xs ys zs : List ℕ) → AscendTo low t (xs ++ ys) →
    ((mid : ℕ) → AscendTo mid t ys → AscendTo mid t zs) → AscendTo low t (xs ++ zs)
keep_front low t [] ys zs is on = on low is
keep_front low t (x ∷ xs) ys zs is on =
    let rest = keep_front x t xs ys zs (record { ascend = is.ascend.1; last = is.last }) on in
    record { ascend = (is.ascend.0, rest.ascend); last = rest.last }

event_some : (feeders f : ℕ) (event : Event) →
    (shared_times feeders f event ≡ times_of_event event) ⊎ (shared_times feeders f event ≡ [])
event_some feeders f (Arrive card bypass room) =
    by (is_share feeders f card.number) (times_of_event (Arrive card bypass room))
  where
    by : (c : Bool) (ts : List ℕ) →
        ((if c then ts else []) ≡ ts) ⊎ ((if c then ts else []) ≡ [])
    by true ts = inl refl
    by false ts = inr refl
event_some feeders f (Ask port call request) = inl refl
event_some feeders f (PortClosed port) = inl refl
event_some feeders f (DeviceDown device) = inl refl

some_times : (feeders f : ℕ) (i : Item) →
    (times_in feeders f i ≡ times_of i) ⊎ (times_in feeders f i ≡ [])
some_times feeders f (Was e) = event_some feeders f e.event
some_times feeders f (Fell d e) = by (is_line_of feeders f d)
  where
    by : (c : Bool) → ((if c then falling_time d.after ∷ [] else []) ≡ falling_time d.after ∷ [])
        ⊎ ((if c then falling_time d.after ∷ [] else []) ≡ [])
    by true = inl refl
    by false = inr refl
some_times feeders f (Passed d) = by (is_line_of feeders f d)
  where
    by : (c : Bool) → ((if c then falling_time d.after ∷ [] else []) ≡ falling_time d.after ∷ [])
        ⊎ ((if c then falling_time d.after ∷ [] else []) ≡ [])
    by true = inl refl
    by false = inr refl

thinned : (feeders f low t : ℕ) (is : List Item) → AscendTo low t (flat_map times_of is) →
    AscendTo low t (flat_map (times_in feeders f) is)
thinned feeders f low t [] are = are
thinned feeders f low t (i ∷ is) are =
    by (some_times feeders f i) (λ mid so. thinned feeders f mid t is so)
  where
    by : (times_in feeders f i ≡ times_of i) ⊎ (times_in feeders f i ≡ []) →
        ((mid : ℕ) → AscendTo mid t (flat_map times_of is) →
        AscendTo mid t (flat_map (times_in feeders f) is)) →
        AscendTo low t (times_in feeders f i ++ flat_map (times_in feeders f) is)
    by (inl same) rest =
        subst (λ l. AscendTo low t (l ++ flat_map (times_in feeders f) is)) (sym same)
        (keep_front low t (times_of i) (flat_map times_of is) (flat_map (times_in feeders f) is)
        are rest)
    by (inr none) rest =
        subst (λ l. AscendTo low t (l ++ flat_map (times_in feeders f) is)) (sym none)
        (rest low (drop_front low t (times_of i) (flat_map times_of is) are))

higher : (low mid : ℕ) (xs : List ℕ) → low ≤ mid → AscendFrom mid xs → AscendFrom low xs
higher low mid [] less are = tt
higher low mid (x ∷ xs) less are = (omega (arith, less, are.0), are.1)

ascend_append : (low t : ℕ) (xs ys : List ℕ) → AscendTo low t xs → AscendFrom t ys →
    AscendFrom low (xs ++ ys)
ascend_append low t [] ys one two = higher low t ys one.last two
ascend_append low t (x ∷ xs) ys one two = (
  one.ascend.0,
  ascend_append x t xs ys (record { ascend = one.ascend.1; last = one.last }) two,
)

-- ---- all of it

module _ (feeders : ℕ) (fallen : ℕ → List Down) (first downs : List Down) (f h : List Entry)
    (xs : List Seen) (front : Fed front_time first f)
    (are : AreSharesOf feeders feeders (replay f) fallen xs)
    (whole : f ++ entries xs ≡ h) (guard : TheirsAre IsNotFed xs)
    (lines_so : (g : ℕ) → g < feeders →
    filter (is_line_of feeders g) first ++ fallen g ≡ filter (is_line_of feeders g) downs) where
  saw : SawAre IsNotFed are.sights
  saw = saw_are IsNotFed are.sights (subst (TheirsAre IsNotFed) (sym are.seen) guard)

  abbrev behind : List Item
  behind = items are.sights

  pub fed_at : IsFedBy feeders downs h
  fed_at = record {
    items = front.items ++ behind;
    entries = flat_map-append entries_of front.items behind
        ∙ ap (λ es. es ++ flat_map entries_of behind) front.entries
        ∙ ap (λ es. f ++ es) (items_entries are.sights ∙ under_is are.sights
        ∙ ap entries are.seen)
        ∙ whole;
    each = items_append None front.items behind front.each
        (subst (λ es. AreItemsFrom (replay es) behind) (sym front.entries)
        (items_are (replay f) are.sights saw are.each));
    lines = λ g low. ap (filter (is_line_of feeders g))
        (flat_map-append lines_of front.items behind)
        ∙ filter-append (is_line_of feeders g) (flat_map lines_of front.items)
        (flat_map lines_of behind)
        ∙ ap (λ ds. filter (is_line_of feeders g) ds
        ++ filter (is_line_of feeders g) (flat_map lines_of behind)) front.lines
        ∙ ap (λ ds. filter (is_line_of feeders g) first ++ ds)
        (ap (filter (is_line_of feeders g)) (items_lines are.sights) ∙ are.lines g low)
        ∙ lines_so g low;
    times = λ g low. subst Ascend (sym (flat_map-append (times_in feeders g) front.items behind))
        (ascend_append 0 front_time (flat_map (times_in feeders g) front.items)
        (flat_map (times_in feeders g) behind)
        (thinned feeders g 0 front_time front.items
        (record { ascend = front.times.ascend; last = front.times.last }))
        (subst (AscendFrom front_time) (sym (items_times feeders g are.sights saw))
        (are.times g low)));
  }

pub all_fed : (feeders frames : ℕ) (script : ScriptValue) (fallen : ℕ → List Down)
    (front xs : List Seen) → IsFeeding front_time (downs_after script 0) front →
    AreJoined feeders feeders fallen front xs →
    ((f : ℕ) → f < feeders → fallen f ≡ share_downs script feeders f frames) →
    IsFedByAll feeders (downs_in_effect script frames) xs
all_fed feeders frames script fallen front xs feeding is lines = record {
  fed = λ guard queue below.
      let both = subst (TheirsAre IsNotFed) is.is guard in
      fed_at feeders fallen (downs_after script 0) (downs_in_effect script frames)
      (history queue (entries front)) (history queue (entries xs)) (history_seen queue is.more)
      ((feeding.fed (theirs_front IsNotFed front is.more both)).each queue below)
      (is.each queue below)
      (ap (λ es. history queue (entries front) ++ es) (entries_seen queue is.more)
      ∙ sym (filter-append (is_of queue) (entries front) (entries is.more))
      ∙ ap (history queue) (sym (entries_append front is.more) ∙ ap entries (sym is.is)))
      (theirs_seen IsNotFed queue is.more (theirs_rest IsNotFed front is.more both))
      (λ g low. ap (λ ds. filter (is_line_of feeders g) (downs_after script 0) ++ ds)
      (lines g low)
      ∙ sym (filter-append (is_line_of feeders g) (downs_after script 0)
      (downs_from script 1 frames)));
}
