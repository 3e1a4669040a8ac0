-- Histories of one queue, written out: fed and in order, and not.
use Rattle.std.specs.Prelude.{ℕ, true, false, List, [], ◌∷◌, ◌==◌, Some, None, if◌then◌else◌}
use Rattle.nfqa_msgs.specs.declared.request.Request.{Request}
use Rattle.nfqa_msgs.specs.declared.request.Request.TheVariants.{Config}
use Rattle.queue_core.specs.declared.event.Event.{Event}
use Rattle.queue_core.specs.declared.event.Event.TheVariants.{Arrive, Ask, PortClosed, DeviceDown}
use Rattle.queue_core.specs.declared.event.Reply.{Reply}
use Rattle.queue_core.specs.declared.event.Reply.TheVariants.{Arrived, Answer, Flushed}
use Rattle.queue_core.specs.declared.offers.Outcome.TheVariants.{CopyNone}
use Rattle.histories.specs.declared.entry.Entry.{Entry}
use Rattle.histories.specs.Examples.{packet}
use Rattle.script_lines.specs.declared.line.Down.{Down}
use Rattle.inspector_script.specs.Scripts.{ScriptValue, held}
use Rattle.run_parts.specs.Order.{Kind, Opens, Ends}

-- an entry of queue 3
abbrev pub at_3 : Event → Reply → Entry
at_3 event reply = record { queue = 3; event = event; reply = reply }

-- port 7 binds it, and asks something more of it
abbrev pub binds : Entry
binds = at_3 (Ask 7 1 (Config 3 (Some 1) None None None None)) (Answer 0 0)

abbrev pub asks : Request → Entry
asks request = at_3 (Ask 7 2 request) (Answer 0 0)

-- the packet of the frame with this number arrives for the first time; the queue copies nothing
abbrev pub arrives : ℕ → Entry
arrives number = at_3 (Arrive (packet number) false true) (Arrived CopyNone)

-- it arrives once more, after it was queued and let go on
abbrev pub comes_again : ℕ → Entry
comes_again number =
    at_3 (Arrive (record (packet number) { visit = 2 }) false true) (Arrived CopyNone)

abbrev pub falls : ℕ → Entry
falls device = at_3 (DeviceDown device) (Flushed 0)

abbrev pub shuts : ℕ → Entry
shuts port = at_3 (PortClosed port) (Flushed 0)

-- device 5 goes down after frame 1
abbrev pub down_5 : List Down
down_5 = record { device = 5; after = 1 } ∷ []

-- device 5 goes down before all frames
abbrev pub early_5 : List Down
early_5 = record { device = 5; after = 0 } ∷ []

-- devices 5 and 6 go down after frames 1 and 2, and device 7 before all frames
abbrev pub three_downs : ScriptValue
three_downs =
    held 1 0 0
    (record { device = 5; after = 1 }
    ∷ record { device = 6; after = 2 }
    ∷ record { device = 7; after = 0 } ∷ []) (7 ∷ [])
    (record { opening = []; lines = []; closing = []; closes = false } ∷ [])

-- Port 7 opens with the binding and ends with a request and its closing; two frames arrive, and
-- between them the device goes down.
abbrev pub whole : Request → List Entry
whole request =
    binds ∷ arrives 1 ∷ falls 5 ∷ arrives 2 ∷ asks request ∷ shuts 7 ∷ []

-- the kinds of port 7's messages, and of its opening alone
abbrev pub kinds_of_7 : ℕ → List Kind
kinds_of_7 port = if port == 7 then Opens ∷ Ends ∷ [] else []

abbrev pub opens_7 : ℕ → List Kind
opens_7 port = if port == 7 then Opens ∷ [] else []

abbrev pub ends_7 : ℕ → List Kind
ends_7 port = if port == 7 then Ends ∷ [] else []

abbrev pub no_kinds : ℕ → List Kind
no_kinds port = []
