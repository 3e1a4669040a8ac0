-- For proofs alone: ports that heard fewer notices than their mailboxes hold, and arrivals that
-- found no room.
use Rattle.std.specs.Prelude.{◌≡◌, ℕ, Bool, true, false, List, length, filter, nat_lt, nat_eq, None}
use Rattle.std.specs.Prelude.{Option, Some, ◌&&◌}
use Rattle.std.specs.List.{list_any}
use Rattle.queue_core.specs.declared.event.Event.{Event}
use Rattle.histories.specs.declared.entry.Entry.{Entry}
use Rattle.histories.specs.declared.log.Did.{Did}
use Rattle.histories.specs.declared.log.PortLog.{PortLog}
use Rattle.histories.specs.History.{history}
use Rattle.histories.specs.Logs.{is_received}
use Rattle.histories.specs.Letters.{lacks_room}
use Rattle.run_parts.specs.Room.{some_lacks}
use Rattle.port_audit.specs.Told.{dids_of}

-- so many notices were heard
abbrev pub heard_in : List Did → ℕ
heard_in dids = length (filter is_received dids)

-- fewer than a mailbox holds
abbrev pub hears_few : ℕ → List PortLog → ℕ → Bool
hears_few mail logs port = nat_lt (heard_in (dids_of port logs)) mail

-- of no queue of these ports an arrival found no room
abbrev pub NoneLacks : List ℕ → List Entry → Type 0
NoneLacks few es = (port : ℕ) → list_any (nat_eq port) few ≡ true →
    (queue : ℕ) → some_lacks port None (history queue es) ≡ false

-- an event found no room at a queue of one of these ports
abbrev pub lacks_at : List ℕ → Option ℕ → Event → Bool
lacks_at few None event = false
lacks_at few (Some port) event = lacks_room event && list_any (nat_eq port) few
