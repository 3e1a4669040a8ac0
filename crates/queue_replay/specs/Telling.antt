-- For proofs alone: what goes on in an entry that is a step, as its reply tells it. A reply says
-- how many packets left, so no table of rules is asked.
use Rattle.std.specs.Prelude.{ℕ, List, [], ◌∷◌, ◌++◌, take, Option, Some, None, ◌==◌, Bool}
use Rattle.std.specs.Prelude.{true, false, if◌then◌else◌}
use Rattle.std.specs.Map.{lookup}
use Rattle.packet_entry.specs.declared.packet.Card.{Card}
use Rattle.packet_entry.specs.Card.{edited}
use Rattle.hook_chain.specs.declared.chain.Decision.{Decision}
use Rattle.hook_chain.specs.declared.chain.Decision.TheVariants.{Drop, Accept, Repeat, Stop, Queue}
use Rattle.nfqa_msgs.specs.declared.request.Request.{Request}
use Rattle.nfqa_msgs.specs.declared.request.Request.TheVariants as request
use Rattle.queue_core.specs.declared.offers.Outcome.{Outcome}
use Rattle.queue_core.specs.declared.offers.Outcome.TheVariants as outcome
use Rattle.queue_core.specs.declared.event.Event.{Event}
use Rattle.queue_core.specs.declared.event.Event.TheVariants as event
use Rattle.queue_core.specs.declared.event.Reply.{Reply}
use Rattle.queue_core.specs.declared.event.Reply.TheVariants as reply
use Rattle.queue_core.specs.Ids.{is_id}
use Rattle.queue_core.specs.Decision.{decision_of}
use Rattle.queue_core.specs.State.{Bound}

abbrev pub Waiting : Type 0
Waiting = List (ℕ × Card)

abbrev pub waiting_of : Option Bound → Waiting
waiting_of None = []
waiting_of (Some q) = q.waiting

abbrev pub Leavers : Type 0
Leavers = List (Card × Decision)

-- whether an arrival with this outcome is let through
abbrev pub lets_through : Outcome → Bool
lets_through (outcome.Taken id) = false
lets_through outcome.Overflow = false
lets_through outcome.OverflowOpen = true
lets_through (outcome.UserFull id) = false
lets_through (outcome.UserFullOpen id) = true
lets_through outcome.NoQueue = false
lets_through outcome.Bypassed = true
lets_through outcome.CopyNone = false
lets_through outcome.Loop = false

abbrev pub going_at_arrival : Card → Outcome → Leavers
going_at_arrival card o = if lets_through o then (card, Accept) ∷ [] else []

-- whether a packet goes on after this decision
abbrev pub is_on : Decision → Bool
is_on Drop = false
is_on Accept = true
is_on Repeat = true
is_on Stop = true
is_on (Queue number bypass) = true

-- a packet goes on as this verdict decides, unless it is destroyed
abbrev pub going_by : ℕ → Card → Leavers
going_by verdict card =
    if is_on (decision_of verdict) then (card, decision_of verdict) ∷ [] else []

-- what was found under an id goes on with the mark, the bytes and the priority that are given
abbrev pub one_going : ℕ → Option ℕ → Option (List ℕ) → Option ℕ → Option Card → Leavers
one_going verdict mark payload priority None = []
one_going verdict mark payload priority (Some card) =
    going_by verdict (edited card mark payload priority)

-- these go on, each with the mark and the priority that are given
abbrev pub each_going : ℕ → Option ℕ → Option ℕ → Waiting → Leavers
each_going verdict mark priority [] = []
each_going verdict mark priority (w ∷ ws) =
    going_by verdict (edited w.1 mark None priority) ++ each_going verdict mark priority ws

-- a request after which so many packets left
abbrev pub going_after_ask : Request → ℕ → Waiting → Leavers
going_after_ask (request.Config queue command params maxlen flags mask) taken ws = []
going_after_ask (request.Verdict queue (Some head) mark payload priority) taken ws =
    if taken == 0 then []
    else one_going head.verdict mark payload priority (lookup (is_id head.id) ws)
going_after_ask (request.Verdict queue None mark payload priority) taken ws = []
going_after_ask (request.Batch queue (Some head) mark priority) taken ws =
    each_going head.verdict mark priority (take taken ws)
going_after_ask (request.Batch queue None mark priority) taken ws = []

-- an entry with this reply, where these wait
abbrev pub told_going : Event → Reply → Waiting → Leavers
told_going (event.Arrive card bypass room) (reply.Arrived o) ws = going_at_arrival card o
told_going (event.Ask port call request) (reply.Answer errno taken) ws =
    going_after_ask request taken ws
told_going event reply ws = []
