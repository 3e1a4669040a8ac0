-- The step of a queue: what one event makes of the state of a queue number, absent (`None`) or
-- bound. Each table of the queue's rules is one definition, and its first line that applies
-- decides.
use Rattle.std.specs.Prelude.{ℕ, ◌+◌, ◌||◌, ◌&&◌, not, min, List, [], ◌∷◌, ◌++◌, length}
use Rattle.std.specs.Prelude.{Option, Some, None, Bool, false, true, nat_le, ◌==◌, map, drop}
use Rattle.std.specs.Prelude.{bit_and, is_some, is_none, unwrap_or, if◌then◌else◌}
use Rattle.std.specs.Map.{lookup, remove_entry, keys_of}
use Rattle.packet_entry.specs.declared.packet.Card.{Card}
use Rattle.packet_entry.specs.Numbers.{last_visit}
use Rattle.hook_chain.specs.declared.chain.Decision.{Decision}
use Rattle.hook_chain.specs.declared.chain.Decision.TheVariants as decision
use Rattle.nfqa_headers.specs.declared.params.Params.{Params}
use Rattle.nfqa_headers.specs.declared.verdict_header.Head.{Head}
use Rattle.nfqa_msgs.specs.declared.request.Request.{Request}
use Rattle.nfqa_msgs.specs.declared.request.Request.TheVariants as request
use Rattle.queue_core.specs.declared.offers.Outcome.{Outcome}
use Rattle.queue_core.specs.declared.offers.Outcome.TheVariants as outcome
use Rattle.queue_core.specs.declared.event.Event.{Event}
use Rattle.queue_core.specs.declared.event.Event.TheVariants as event
use Rattle.queue_core.specs.declared.event.Reply.{Reply}
use Rattle.queue_core.specs.declared.event.Reply.TheVariants as reply
use Rattle.nfqa_msgs.specs.Numbers.{copy_none, command_bind, command_unbind, command_pf_bind}
use Rattle.nfqa_msgs.specs.Numbers.{command_pf_unbind, flag_conntrack, flag_secctx, eperm, enoent}
use Rattle.nfqa_msgs.specs.Numbers.{ebusy, enodev, einval, eopnotsupp, input_device, output_device}
use Rattle.queue_core.specs.Numbers.{largest_count, first_unknown_flag}
use Rattle.queue_core.specs.Ids.{fresh, is_id}
use Rattle.queue_core.specs.Decision.{Edit, edited, is_verdict, decision_of}
use Rattle.queue_core.specs.State.{Bound, bound_to, configured, emptied, fails_open}
use Rattle.queue_core.specs.Share.{share}

-- how a packet leaves a queue: destroyed, on to the next table, or as a verdict decided
pub data Way : Type 0 where
  Gone : Way
  Open : Way
  Decided : Decision → Way

-- what a step gives: the state after it, the reply, and what leaves, in order
pub record Stepped : Type 0 where
  pub state : Option Bound
  pub reply : Reply
  pub left : List (Card × Way)

-- ---- arrivals

-- An arrival's table. Of these lines the first that applies decides:
--   1  it is the packet's 33rd visit: destroyed
--   2  the queue is absent, and the arrival has no bypass: destroyed
--   3  the queue is absent, and the arrival has the bypass: goes on with the next table
--   4  the copy mode is NONE: destroyed
--   5  as many wait as may, and the queue fails open: goes on
--   6  as many wait as may: destroyed, counted as dropped
--   7  the port's mailbox has no room, and the queue fails open: goes on, its id is used
--   8  the port's mailbox has no room: destroyed, counted as user dropped, its id is used
--   9  otherwise: it waits, last in the list, its id is used

-- the id that the next arrival gets
abbrev pub next_id : Bound → ℕ
next_id q = fresh q.last (keys_of q.waiting)

-- a count that stops at its last value
abbrev pub one_more : ℕ → ℕ
one_more n = min (n + 1) largest_count

-- the id is used
abbrev pub with_last : Bound → ℕ → Bound
with_last q id = record q { last = id }

-- the packet waits, last in the list, and its id is used
abbrev pub taken : Bound → ℕ → Card → Bound
taken q id card = record q { last = id; waiting = q.waiting ++ (id, card) ∷ [] }

-- one packet more was destroyed because too many wait, or because the port's mailbox was full
abbrev pub one_dropped : Bound → Bound
one_dropped q = record q { dropped = one_more q.dropped }

abbrev pub one_user_dropped : Bound → ℕ → Bound
one_user_dropped q id = record q { last = id; user_dropped = one_more q.user_dropped }

-- the packet is destroyed
abbrev pub gone : Option Bound → Outcome → Card → Stepped
gone q o card = record { state = q; reply = reply.Arrived o; left = (card, Gone) ∷ [] }

-- the packet goes on with the next table
abbrev pub goes_on : Option Bound → Outcome → Card → Stepped
goes_on q o card = record { state = q; reply = reply.Arrived o; left = (card, Open) ∷ [] }

-- the packet waits, and nothing leaves
abbrev pub waits : Bound → ℕ → Card → Stepped
waits q id card = record {
  state = Some (taken q id card);
  reply = reply.Arrived (outcome.Taken id);
  left = [];
}

-- whether as many packets wait as may
abbrev pub is_full : Bound → Bool
is_full q = nat_le q.maximum (length q.waiting)

-- lines 4 to 9 (nfqnl_enqueue_packet); `room` says whether the port's mailbox took the notice
abbrev pub arrive_bound : Bound → Card → Bool → Stepped
arrive_bound q card room =
    if q.mode == copy_none then gone (Some q) outcome.CopyNone card
    else if is_full q && fails_open q then goes_on (Some q) outcome.OverflowOpen card
    else if is_full q then gone (Some (one_dropped q)) outcome.Overflow card
    else if not room && fails_open q
    then goes_on (Some (with_last q (next_id q))) (outcome.UserFullOpen (next_id q)) card
    else if not room
    then gone (Some (one_user_dropped q (next_id q))) (outcome.UserFull (next_id q)) card
    else waits q (next_id q) card

-- lines 2 to 9
abbrev pub arrive_in_time : Option Bound → Card → Bool → Bool → Stepped
arrive_in_time None card false room = gone None outcome.NoQueue card
arrive_in_time None card true room = goes_on None outcome.Bypassed card
arrive_in_time (Some q) card bypass room = arrive_bound q card room

-- an arrival (nf_queue, nfqnl_enqueue_packet)
abbrev pub arrive : Option Bound → Card → Bool → Bool → Stepped
arrive q card bypass room =
    if card.visit == last_visit then gone q outcome.Loop card
    else arrive_in_time q card bypass room

-- whether line 4, 5 or 6 decides, so that a bound queue offers no notice
abbrev pub turns_away : Bound → Bool
turns_away q = (q.mode == copy_none) || is_full q

-- whether one of the first six lines decides, so that no notice is offered. The bypass says
-- how an absent queue decides, and not whether.
abbrev pub is_decided_early : Option Bound → Card → Bool
is_decided_early None card = true
is_decided_early (Some q) card = (card.visit == last_visit) || turns_away q

-- ---- requests

-- A config request's table. Of these lines the first that applies decides:
--   1   the command is PF_BIND or PF_UNBIND: 0, no effect
--   2   flags without a mask: EINVAL
--   3   flags that nobody knows: EOPNOTSUPP
--   4   connection tracking or security contexts are asked for: EOPNOTSUPP
--   5   the queue is bound to another port: EPERM
--   6   BIND of a bound queue: EBUSY
--   7   UNBIND of an absent queue: ENODEV
--   8   UNBIND of a bound queue: 0; all that waits is destroyed, the queue is absent, and the other
--       parts of the request have no effect
--   9   any other command than BIND: EOPNOTSUPP
--   10  no command, and the queue is absent: ENODEV
--   11  otherwise: 0; BIND makes a new queue for the sender, and then params, maximum and flags
--       apply, in this order

-- a request that changes nothing: its state stays, and nothing leaves
abbrev pub unchanged : Option Bound → ℕ → Stepped
unchanged q errno = record { state = q; reply = reply.Answer errno 0; left = [] }

-- all that waits is destroyed
abbrev pub all_gone : Bound → List (Card × Way)
all_gone q = map (λ w. (w.1, Gone)) q.waiting

-- what a config request asks for
pub record ConfigAsk : Type 0 where
  pub command : Option ℕ
  pub params : Option Params
  pub maximum : Option ℕ
  pub flags : Option ℕ
  pub mask : Option ℕ

-- whether the command is this one
abbrev pub is_command : ℕ → Option ℕ → Bool
is_command n None = false
is_command n (Some command) = command == n

-- whether flags were asked for that nobody knows
abbrev pub has_unknown_flags : Option ℕ → Bool
has_unknown_flags None = false
has_unknown_flags (Some flags) = nat_le first_unknown_flag flags

-- whether connection tracking or security contexts are asked for
abbrev pub has_refused_flags : Option ℕ → Option ℕ → Bool
has_refused_flags (Some flags) (Some mask) =
    not (bit_and (bit_and flags mask) (flag_conntrack + flag_secctx) == 0)
has_refused_flags (Some flags) None = false
has_refused_flags None mask = false

-- whether the flags and the mask are refused, whatever the queue
abbrev pub are_flags_refused : Option ℕ → Option ℕ → Bool
are_flags_refused flags mask =
    (is_some flags && is_none mask) || has_unknown_flags flags || has_refused_flags flags mask

-- whether the queue is bound to another port
abbrev pub is_bound_elsewhere : Option Bound → ℕ → Bool
is_bound_elsewhere None port = false
is_bound_elsewhere (Some q) port = not (q.port == port)

-- the queue ends, and all that waited is destroyed (instance_destroy)
abbrev pub ended : Bound → Stepped
ended q =
    record { state = None; reply = reply.Answer 0 (length q.waiting); left = all_gone q }

-- lines 7 and 8: there is no such queue, or it ends
abbrev pub unbind : Option Bound → Stepped
unbind None = unchanged None enodev
unbind (Some q) = ended q

-- what the request asks for applies, and nothing leaves
abbrev pub set_up : Bound → ConfigAsk → Stepped
set_up q ask =
    record {
      state = Some (configured ask.params ask.maximum ask.flags ask.mask q);
      reply = reply.Answer 0 0;
      left = [];
    }

-- a config request (nfqnl_recv_config)
abbrev pub config : Option Bound → ℕ → ConfigAsk → Stepped
config q port ask =
    if is_command command_pf_bind ask.command || is_command command_pf_unbind ask.command
    then unchanged q 0
    else if is_some ask.flags && is_none ask.mask then unchanged q einval
    else if has_unknown_flags ask.flags then unchanged q eopnotsupp
    else if has_refused_flags ask.flags ask.mask then unchanged q eopnotsupp
    else if is_bound_elsewhere q port then unchanged q eperm
    else if is_command command_bind ask.command && is_some q then unchanged q ebusy
    else if is_command command_unbind ask.command then unbind q
    else if is_some ask.command && not (is_command command_bind ask.command)
    then unchanged q eopnotsupp
    else if is_none ask.command && is_none q then unchanged q enodev
    else set_up (unwrap_or q (bound_to port)) ask

-- whether a verdict or a batch is carried out: refused with an error, or allowed at this queue with
-- this header
pub data Ruling : Type 0 where
  Refused : ℕ → Ruling
  Allowed : Bound → Head → Ruling

-- The refusals of a verdict and of a batch, in their order: no such queue, bound to another port,
-- no header, or a verdict that isn't known or is STOLEN (nfqnl_recv_verdict,
-- verdict_instance_lookup).
abbrev pub refusal : Option Bound → ℕ → Option Head → Ruling
refusal None port head = Refused enodev
refusal (Some q) port None = Refused (if q.port == port then einval else eperm)
refusal (Some q) port (Some head) =
    if not (q.port == port) then Refused eperm
    else if not (is_verdict head.verdict) then Refused einval
    else Allowed q head

-- the packet that waits under the id
abbrev pub card_under : Bound → ℕ → Option Card
card_under q id = lookup (is_id id) q.waiting

-- the queue without what waits under the id
abbrev pub without : Bound → ℕ → Bound
without q id = record q { waiting = remove_entry (is_id id) q.waiting }

-- the queue without so many of the oldest
abbrev pub without_oldest : Bound → ℕ → Bound
without_oldest q n = record q { waiting = drop n q.waiting }

-- the way of a decision: DROP destroys
abbrev pub way_of : Decision → Way
way_of decision.Drop = Gone
way_of decided = Decided decided

-- a packet as its verdict lets it leave
abbrev pub leaving : Head → Edit → Card → Card × Way
leaving head edit card = (edited edit card, way_of (decision_of head.verdict))

-- a verdict on what waits under its id
abbrev pub carried_out : Bound → Head → Edit → Option Card → Stepped
carried_out q head edit None = unchanged (Some q) enoent
carried_out q head edit (Some card) =
    record {
      state = Some (without q head.id);
      reply = reply.Answer 0 1;
      left = leaving head edit card ∷ [];
    }

abbrev pub verdict_under : Ruling → Option Bound → Edit → Stepped
verdict_under (Refused errno) q edit = unchanged q errno
verdict_under (Allowed bound head) q edit =
    carried_out bound head edit (card_under bound head.id)

-- a verdict request (nfqnl_recv_verdict)
abbrev pub verdict : Option Bound → ℕ → Option Head → Edit → Stepped
verdict q port head edit = verdict_under (refusal q port head) q edit

-- a batch sets the mark and priority of each, and replaces no bytes
abbrev pub batch_edit : Option ℕ → Option ℕ → Edit
batch_edit mark priority = record { mark = mark; payload = None; priority = priority }

-- a batch on its share
abbrev pub shared_out : Bound → Head → Option ℕ → Option ℕ → List (ℕ × Card) → Stepped
shared_out q head mark priority [] = unchanged (Some q) enoent
shared_out q head mark priority (w ∷ ws) =
    record {
      state = Some (without_oldest q (length (w ∷ ws)));
      reply = reply.Answer 0 (length (w ∷ ws));
      left = map (λ v. leaving head (batch_edit mark priority) v.1) (w ∷ ws);
    }

abbrev pub batch_under : Ruling → Option Bound → Option ℕ → Option ℕ → Stepped
batch_under (Refused errno) q mark priority = unchanged q errno
batch_under (Allowed bound head) q mark priority =
    shared_out bound head mark priority (share bound.waiting head.id)

-- a batch request (nfqnl_recv_verdict_batch)
abbrev pub batch : Option Bound → ℕ → Option Head → Option ℕ → Option ℕ → Stepped
batch q port head mark priority = batch_under (refusal q port head) q mark priority

-- a request of a port
abbrev pub ask : Option Bound → ℕ → Request → Stepped
ask q port (request.Config queue command params maximum flags mask) =
    config q port
    (record {
      command = command;
      params = params;
      maximum = maximum;
      flags = flags;
      mask = mask;
    })
ask q port (request.Verdict queue head mark payload priority) =
    verdict q port head (record { mark = mark; payload = payload; priority = priority })
ask q port (request.Batch queue head mark priority) = batch q port head mark priority

-- ---- ports and devices

-- nothing happens to the queue
abbrev pub untouched : Option Bound → Stepped
untouched q = record { state = q; reply = reply.Flushed 0; left = [] }

-- all that waits is destroyed (nfqnl_flush)
abbrev pub flushed : Bound → Stepped
flushed q = record {
  state = Some (emptied q);
  reply = reply.Flushed (length q.waiting);
  left = all_gone q;
}

-- The port of the queue is closed: the queue is flushed, and absent (nfqnl_rcv_nl_event). It
-- happens at queues of this port alone.
abbrev pub port_closed : Option Bound → Stepped
port_closed None = untouched None
port_closed (Some q) = record (flushed q) { state = None }

-- A device goes down: where it is one of the two by which every packet comes in and goes out, the
-- queue is flushed (nfqnl_dev_drop).
abbrev pub device_down : Option Bound → ℕ → Stepped
device_down None device = untouched None
device_down (Some q) device =
    if (device == input_device) || (device == output_device) then flushed q else untouched (Some q)

-- ---- the step

abbrev pub step : Option Bound → Event → Stepped
step q (event.Arrive card bypass room) = arrive q card bypass room
step q (event.Ask port call request) = ask q port request
step q (event.PortClosed port) = port_closed q
step q (event.DeviceDown device) = device_down q device
