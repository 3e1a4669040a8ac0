-- The feeder: where frames arrive for the first time, and where devices go down between them.
use Rattle.std.specs.Prelude.{◌≡◌, ◌<◌, ℕ, zero, suc, ◌+◌, ◌*◌, List, [], ◌∷◌, ◌++◌, flat_map}
use Rattle.std.specs.Prelude.{◌-◌, ◌%◌, ◌||◌, Bool, filter, Option, None, ◌==◌, if◌then◌else◌}
use Rattle.queue_core.specs.State.{Bound}
use Rattle.queue_core.specs.declared.event.Event.{Event}
use Rattle.queue_core.specs.declared.event.Event.TheVariants.{Arrive, Ask, PortClosed, DeviceDown}
use Rattle.histories.specs.declared.entry.Entry.{Entry}
use Rattle.histories.specs.Numbers.{queue_count}
use Rattle.histories.specs.History.{history, replay_from}
use Rattle.script_lines.specs.declared.line.Down.{Down}
use Rattle.inspector_script.specs.Scripts.{ScriptValue}
use Rattle.run_parts.specs.Ascending.{Ascend}

-- ---- the lines that take effect

-- the devices that go down after the frame with this number, in the script's order
abbrev pub is_after : ℕ → Down → Bool
is_after number d = d.after == number

abbrev pub downs_after : ScriptValue → ℕ → List Down
downs_after script number = filter (is_after number) script.downs

-- the `down` lines of so many frames, from this number on: frame by frame, those of one frame in
-- the script's order
abbrev pub downs_from : ScriptValue → ℕ → ℕ → List Down
downs_from script number zero = []
downs_from script number (suc frames) =
    downs_after script number ++ downs_from script (number + 1) frames

-- those that take effect where there are so many frames, in this order: those after 0, which is
-- before the first frame, and those after each frame. A line after a later frame has no effect.
abbrev pub downs_in_effect : ScriptValue → ℕ → List Down
downs_in_effect script frames = downs_from script 0 (suc frames)

-- ---- a history with these lines put in

-- An entry; a line with its entry; or a line that passed without one.
pub data Item : Type 0 where
  Was : Entry → Item
  Fell : Down → Entry → Item
  Passed : Down → Item

abbrev pub entries_of : Item → List Entry
entries_of (Was e) = e ∷ []
entries_of (Fell d e) = e ∷ []
entries_of (Passed d) = []

abbrev pub lines_of : Item → List Down
lines_of (Was e) = []
lines_of (Fell d e) = d ∷ []
lines_of (Passed d) = d ∷ []

-- an entry that is no line's isn't a device that goes down
abbrev pub IsNoDown : Event → Type 0
IsNoDown (Arrive card bypass room) = Unit {0}
IsNoDown (Ask port call request) = Unit {0}
IsNoDown (PortClosed port) = Unit {0}
IsNoDown (DeviceDown device) = ⊥

-- A line has its device's entry, or passes where the queue is absent.
abbrev pub IsItem : Option Bound → Item → Type 0
IsItem q (Was e) = IsNoDown e.event
IsItem q (Fell d e) = e.event ≡ DeviceDown d.device
IsItem q (Passed d) = q ≡ None

-- from a state of the queue on
abbrev pub AreItemsFrom : Option Bound → List Item → Type 0
AreItemsFrom q [] = Unit {0}
AreItemsFrom q (i ∷ is) = IsItem q i × AreItemsFrom (replay_from q (entries_of i)) is

-- ---- their order

-- when a frame is fed, from here to one later, and when the lines after it take effect
abbrev pub feeding_time : ℕ → ℕ
feeding_time number = 2 * number

abbrev pub falling_time : ℕ → ℕ
falling_time number = 2 * number + 1

-- An arrival of visit 1 takes up the time in which its frame is fed, and so none comes twice; other
-- entries are at any time.
abbrev pub times_of_event : Event → List ℕ
times_of_event (Arrive card bypass room) =
    if card.visit == 1
    then feeding_time card.number ∷ (feeding_time card.number + 1) ∷ []
    else []
times_of_event (Ask port call request) = []
times_of_event (PortClosed port) = []
times_of_event (DeviceDown device) = []

abbrev pub times_of : Item → List ℕ
times_of (Was e) = times_of_event e.event
times_of (Fell d e) = falling_time d.after ∷ []
times_of (Passed d) = falling_time d.after ∷ []

-- A queue's history was fed by one feeder, with these lines, where they can be put in: each at one
-- place, in their order, with the entry of its device or where the queue is absent; no other device
-- goes down; and the times ascend. So first arrivals ascend by their frames' numbers, and a line
-- stands behind those of all frames up to its own and before those of later ones.
pub record IsFed (downs : List Down) (h : List Entry) : Type 0 where
  pub items : List Item
  pub entries : flat_map entries_of items ≡ h
  pub lines : flat_map lines_of items ≡ downs
  pub each : AreItemsFrom None items
  pub times : Ascend (flat_map times_of items)

-- ---- several feeders

-- Of so many feeders this one feeds the frame with this number, or lets the lines after it take
-- effect. The lines before the first frame belong to all.
abbrev pub is_share : ℕ → ℕ → ℕ → Bool
is_share feeders feeder number =
    (number == 0) || ((number - 1) % feeders == feeder)

abbrev pub is_line_of : ℕ → ℕ → Down → Bool
is_line_of feeders feeder d = is_share feeders feeder d.after

-- the times of what is in a feeder's share
abbrev pub shared_times : ℕ → ℕ → Event → List ℕ
shared_times feeders feeder (Arrive card bypass room) =
    if is_share feeders feeder card.number
    then times_of_event (Arrive card bypass room)
    else []
shared_times feeders feeder (Ask port call request) = []
shared_times feeders feeder (PortClosed port) = []
shared_times feeders feeder (DeviceDown device) = []

abbrev pub times_in : ℕ → ℕ → Item → List ℕ
times_in feeders feeder (Was e) = shared_times feeders feeder e.event
times_in feeders feeder (Fell d e) =
    if is_line_of feeders feeder d then falling_time d.after ∷ [] else []
times_in feeders feeder (Passed d) =
    if is_line_of feeders feeder d then falling_time d.after ∷ [] else []

-- A queue's history was fed by so many feeders, where all lines can be put in, and of each feeder's
-- share its lines stand in their order and the times ascend. Between the shares there is no order.
pub record IsFedBy (feeders : ℕ) (downs : List Down) (h : List Entry) : Type 0 where
  pub items : List Item
  pub entries : flat_map entries_of items ≡ h
  pub each : AreItemsFrom None items
  pub lines : (feeder : ℕ) → feeder < feeders →
      filter (is_line_of feeders feeder) (flat_map lines_of items)
      ≡ filter (is_line_of feeders feeder) downs
  pub times : (feeder : ℕ) → feeder < feeders →
      Ascend (flat_map (times_in feeders feeder) items)

-- so it is of each queue
abbrev pub AreFed : ℕ → ScriptValue → ℕ → List Entry → Type 0
AreFed feeders script frames es =
    (queue : ℕ) → queue < queue_count →
    IsFedBy feeders (downs_in_effect script frames) (history queue es)
