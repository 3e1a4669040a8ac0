-- Histories in which nothing has a priority.
use Rattle.std.specs.Prelude.{◌≡◌, ⊤, None}
use Rattle.nfqa_msgs.specs.declared.request.Request.{Request}
use Rattle.nfqa_msgs.specs.declared.request.Request.TheVariants.{Config, Verdict, Batch}
use Rattle.queue_core.specs.declared.event.Event.{Event}
use Rattle.queue_core.specs.declared.event.Event.TheVariants.{Arrive, Ask, PortClosed, DeviceDown}

-- a request gives no priority
abbrev pub GivesNone : Request → Type 0
GivesNone (Config queue command params maximum flags mask) = ⊤
GivesNone (Verdict queue head mark payload priority) = priority ≡ None
GivesNone (Batch queue head mark priority) = priority ≡ None

-- a packet arrives with priority 0, and a request gives none
abbrev pub BringsNone : Event → Type 0
BringsNone (Arrive card bypass room) = card.priority ≡ 0
BringsNone (Ask port call request) = GivesNone request
BringsNone (PortClosed port) = ⊤
BringsNone (DeviceDown device) = ⊤
