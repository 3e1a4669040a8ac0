-- What one of several feeders keeps of a place while it feeds its share: a list of its own for each
-- queue, in which the others' entries are told apart from what it did itself.
use Rattle.std.specs.Prelude.{◌≡◌, ◌≤◌, ◌<◌, ◌-◌, ◌%◌, ℕ, List, [], ◌∷◌, ◌++◌, flat_map, filter}
use Rattle.std.specs.Prelude.{Bool, Option}
use Rattle.queue_core.specs.State.{Bound}
use Rattle.queue_core.specs.declared.event.Event.{Event}
use Rattle.queue_core.specs.declared.event.Event.TheVariants.{Arrive, Ask, PortClosed, DeviceDown}
use Rattle.histories.specs.declared.entry.Entry.{Entry}
use Rattle.histories.specs.History.{history, is_of, replay, replay_from}
use Rattle.histories.specs.Numbers.{queue_count}
use Rattle.script_lines.specs.declared.line.Down.{Down}
use Rattle.run_parts.specs.Ascending.{AscendFrom}
use Rattle.run_parts.specs.Feeder.{Item, Was, Fell, Passed, IsItem, entries_of, lines_of, times_of}
use Rattle.run_parts.specs.Feeder.{falling_time}
use Rattle.run_parts.specs.Underway.{last_of}
use Rattle.live_runs.specs.Seen.{Seen, Shares, Theirs, all_ours, entries, entry}

-- ---- what feeders see and do at a queue

-- another's entry, or an item of one's own
pub data Sight : Type 0 where
  Saw : Entry → Sight
  Own : Item → Sight

-- what of it stands in the list that the pass has seen
abbrev pub seen_of : Sight → List Seen
seen_of (Saw e) = Theirs e ∷ []
seen_of (Own i) = all_ours (entries_of i)

-- the item that it is, whoever's it is
abbrev pub item_of : Sight → Item
item_of (Saw e) = Was e
item_of (Own i) = i

-- one's own lines, and the times of one's own lines and first arrivals
abbrev pub own_lines : Sight → List Down
own_lines (Saw e) = []
own_lines (Own i) = lines_of i

abbrev pub own_times : Sight → List ℕ
own_times (Saw e) = []
own_times (Own i) = times_of i

-- One's own is as with one feeder: a line has its device's entry, or passes where the queue is
-- absent, and no other device goes down. Nothing is asked of another's entry.
abbrev pub IsSight : Option Bound → Sight → Type 0
IsSight q (Saw e) = Unit {0}
IsSight q (Own i) = IsItem q i

-- from a state of the queue on
abbrev pub AreSightsFrom : Option Bound → List Sight → Type 0
AreSightsFrom q [] = Unit {0}
AreSightsFrom q (s ∷ ss) =
    IsSight q s × AreSightsFrom (replay_from q (entries_of (item_of s))) ss

-- ---- shares

-- a frame of these feeders, of so many that there are; frames count from 1
pub record IsFrameOf (feeders : ℕ) (Who : ℕ → Type 0) (number : ℕ) : Type 0 where
  pub counted : 1 ≤ number
  pub own : Who ((number - 1) % feeders)

-- just this feeder, and those before a number
abbrev pub IsThis : ℕ → ℕ → Type 0
IsThis feeder other = other ≡ feeder

abbrev pub IsBefore : ℕ → ℕ → Type 0
IsBefore count other = other < count

-- an arrival of visit 1 is of such a frame
abbrev pub IsEventOf : (ℕ → Type 0) → Event → Type 0
IsEventOf Frame (Arrive card bypass room) = card.visit ≡ 1 → Frame card.number
IsEventOf Frame (Ask port call request) = Unit {0}
IsEventOf Frame (PortClosed port) = Unit {0}
IsEventOf Frame (DeviceDown device) = Unit {0}

-- and a line takes effect after such a frame
abbrev pub IsItemOf : (ℕ → Type 0) → Item → Type 0
IsItemOf Frame (Was e) = IsEventOf Frame e.event
IsItemOf Frame (Fell d e) = Frame d.after
IsItemOf Frame (Passed d) = Frame d.after

-- so is all that is one's own
abbrev pub OwnAreOf : (ℕ → Type 0) → List Sight → Type 0
OwnAreOf Frame [] = Unit {0}
OwnAreOf Frame (Saw e ∷ ss) = OwnAreOf Frame ss
OwnAreOf Frame (Own i ∷ ss) = IsItemOf Frame i × OwnAreOf Frame ss

-- ---- what a feeder keeps

-- times that ascend from one to another
pub record AscendTo (low high : ℕ) (xs : List ℕ) : Type 0 where
  pub ascend : AscendFrom low xs
  pub last : last_of low xs ≤ high

-- the lines before the first frame take effect at this time, before all shares
abbrev pub front_time : ℕ
front_time = falling_time 0

-- Of a queue in this state, what a feeder has seen since: its own items can be put in. They are of
-- its share, with these lines in their order, and their times ascend up to this one.
pub record IsShareOf (feeders feeder time : ℕ) (q : Option Bound) (fallen : List Down)
    (h : List Seen) : Type 0 where
  pub sights : List Sight
  pub seen : flat_map seen_of sights ≡ h
  pub each : AreSightsFrom q sights
  pub own : OwnAreOf (IsFrameOf feeders (IsThis feeder)) sights
  pub lines : flat_map own_lines sights ≡ fallen
  pub times : AscendTo front_time time (flat_map own_times sights)

-- what a pass has seen of a queue
abbrev pub is_seen_of : ℕ → Seen → Bool
is_seen_of queue x = is_of queue (entry x)

abbrev pub history_seen : ℕ → List Seen → List Seen
history_seen queue xs = filter (is_seen_of queue) xs

-- A place that one of so many feeders goes on to feed, behind what all of them had seen there: each
-- queue has its share, up to this time and with these lines. Nothing is asked of what others do.
pub record IsSharing (feeders feeder time : ℕ) (fallen : List Down) (front xs : List Seen)
    : Type 0 where
  pub more : List Seen
  pub is : xs ≡ front ++ more
  pub each : (queue : ℕ) → queue < queue_count →
      IsShareOf feeders feeder time (replay (history queue (entries front))) fallen
      (history_seen queue more)

-- so does each place
abbrev pub AreSharing : ℕ → ℕ → ℕ → ℕ → List Down → Shares → Shares → Type 0
AreSharing places feeders feeder time fallen front shares =
    (k : ℕ) → k < places → IsSharing feeders feeder time fallen (front k) (shares k)
