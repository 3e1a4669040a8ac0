-- Which packets leave in a step, each by its number and visit.
use Rattle.std.specs.Prelude.{ℕ, List, [], ◌∷◌, map, take, Option, Some, None, ◌==◌}
use Rattle.std.specs.Prelude.{if◌then◌else◌}
use Rattle.std.specs.Map.{lookup}
use Rattle.packet_entry.specs.declared.packet.Card.{Card}
use Rattle.nfqa_msgs.specs.declared.request.Request.{Request}
use Rattle.nfqa_msgs.specs.declared.request.Request.TheVariants as request
use Rattle.queue_core.specs.declared.offers.Outcome.{Outcome}
use Rattle.queue_core.specs.declared.offers.Outcome.TheVariants as outcome
use Rattle.queue_core.specs.declared.event.Event.{Event}
use Rattle.queue_core.specs.declared.event.Event.TheVariants as event
use Rattle.queue_core.specs.declared.event.Reply.{Reply}
use Rattle.queue_core.specs.declared.event.Reply.TheVariants as reply
use Rattle.queue_core.specs.Ids.{is_id}
use Rattle.queue_core.specs.Step.{Stepped}
use Rattle.queue_core.specs.Laws.{leaving_in}
use Rattle.queue_replay.specs.Telling.{Waiting}

-- a packet by its number and visit
abbrev pub visit_of : Card → ℕ × ℕ
visit_of card = (card.number, card.visit)

abbrev pub visits_of : List Card → List (ℕ × ℕ)
visits_of cards = map visit_of cards

-- those that leave in a step, in order
abbrev pub visits_left : Stepped → List (ℕ × ℕ)
visits_left s = visits_of (leaving_in s)

-- ---- for proofs alone: the same, as an entry's reply tells it

-- an arrival with this outcome
abbrev pub leaving_at_arrival : Card → Outcome → List (ℕ × ℕ)
leaving_at_arrival card (outcome.Taken id) = []
leaving_at_arrival card other = visit_of card ∷ []

-- so many of the oldest
abbrev pub first_leaving : ℕ → Waiting → List (ℕ × ℕ)
first_leaving taken ws = map (λ w. visit_of w.1) (take taken ws)

abbrev pub one_leaving : Option Card → List (ℕ × ℕ)
one_leaving None = []
one_leaving (Some card) = visit_of card ∷ []

-- a request after which so many packets left
abbrev pub leaving_after_ask : Request → ℕ → Waiting → List (ℕ × ℕ)
leaving_after_ask (request.Config queue command params maxlen flags mask) taken ws =
    first_leaving taken ws
leaving_after_ask (request.Verdict queue (Some head) mark payload priority) taken ws =
    if taken == 0 then [] else one_leaving (lookup (is_id head.id) ws)
leaving_after_ask (request.Verdict queue None mark payload priority) taken ws = []
leaving_after_ask (request.Batch queue head mark priority) taken ws = first_leaving taken ws

-- an entry with this reply, where these wait
abbrev pub told_leaving : Event → Reply → Waiting → List (ℕ × ℕ)
told_leaving (event.Arrive card bypass room) (reply.Arrived o) ws = leaving_at_arrival card o
told_leaving (event.Ask port call request) (reply.Answer errno taken) ws =
    leaving_after_ask request taken ws
told_leaving (event.PortClosed port) (reply.Flushed taken) ws = first_leaving taken ws
told_leaving (event.DeviceDown device) (reply.Flushed taken) ws = first_leaving taken ws
told_leaving event reply ws = []
