-- Entries that are followed by their replies alone: the replies of a legal history tell what
-- leaves, and the steps of the sequential queue needn't be computed again.
use Rattle.std.specs.Prelude.{◌≡◌, ℕ, ◌+◌, ◌-◌, suc, zero, List, [], ◌∷◌, ◌++◌, map, length, take}
use Rattle.std.specs.Prelude.{drop, Option, Some, None, ◌==◌, if◌then◌else◌, slice_get, slice_set}
use Rattle.std.specs.Prelude.{◌%◌, ◌^◌, Bool, false, nat_le}
use Rattle.std.specs.Map.{lookup, remove_entry}
use Rattle.std.specs.BTreeMap.{get}
use Rattle.std.specs.Ordering.{nat_cmp}
use Rattle.packet_entry.specs.declared.packet.Card.{Card}
use Rattle.packet_entry.specs.Card.{edited}
use Rattle.pcap_io.specs.declared.capture.Frame.{Frame}
use Rattle.nfqa_msgs.specs.declared.request.Request.{Request}
use Rattle.nfqa_msgs.specs.declared.request.Request.TheVariants as request
use Rattle.queue_core.specs.declared.offers.Outcome.{Outcome}
use Rattle.queue_core.specs.declared.offers.Outcome.TheVariants as outcome
use Rattle.queue_core.specs.declared.event.Event.{Event}
use Rattle.queue_core.specs.declared.event.Event.TheVariants as event
use Rattle.queue_core.specs.declared.event.Reply.{Reply}
use Rattle.queue_core.specs.declared.event.Reply.TheVariants as reply
use Rattle.queue_core.specs.Ids.{is_id}
use Rattle.queue_core.specs.Decision.{decision_of}
use Rattle.queue_core.specs.State.{Bound}
use Rattle.queue_core.specs.Step.{way_of}
use Rattle.histories.specs.declared.entry.Entry.{Entry}
use Rattle.histories.specs.History.{history, replay}
use Rattle.fate_ledger.specs.declared.happening.Happening.{Happening}
use Rattle.fate_ledger.specs.declared.happening.How.{How}
use Rattle.fate_ledger.specs.declared.following.Followed.{Followed}
use Rattle.fate_ledger.specs.declared.followed_queues.FollowedQueues.{FollowedQueues}
use Rattle.fate_ledger.specs.declared.fate.Fate.{Fate}
use Rattle.fate_ledger.specs.declared.fate.Fate.TheVariants as fate
use Rattle.fate_ledger.specs.declared.fate.FateLine.{FateLine}
use Rattle.fate_ledger.specs.Fates.{fate_at_arrival, fate_by_verdict, fate_unless, last_of}

-- ---- what waits

abbrev pub Waiting : Type 0
Waiting = List (ℕ × Card)

abbrev pub waiting_of : Option Bound → Waiting
waiting_of None = []
waiting_of (Some q) = q.waiting

-- ---- the last event of each packet

-- What is kept of each frame's packet: the visit of its last event, 0 where it has none, the payload
-- of the line that this event gives, and that line without it.
pub record Kept : Type 0 where
  pub visits : List ℕ
  pub payloads : List (List ℕ)
  pub lines : List FateLine

-- as many of each
pub record AsMany (visits : List ℕ) (payloads : List (List ℕ)) (lines : List FateLine) : Type 0
  where
    pub visits_are : length visits ≡ length lines
    pub payloads_are : length payloads ≡ length lines

-- with one packet more, before the others
abbrev pub with_first : ℕ → List ℕ → FateLine → Kept → Kept
with_first visit payload line kept =
    record {
      visits = visit ∷ kept.visits;
      payloads = payload ∷ kept.payloads;
      lines = line ∷ kept.lines;
    }

abbrev pub visit_of : Option Happening → ℕ
visit_of None = 0
visit_of (Some h) = h.card.visit

abbrev pub payload_of : Frame → Option Happening → List ℕ
payload_of f None = f.bytes
payload_of f (Some h) = h.card.bytes

-- a line without its payload, told of an event
abbrev pub told_line : Happening → FateLine → FateLine
told_line h l =
    record l {
      fate = h.fate;
      queue = h.queue;
      at = h.at;
      mark = h.card.mark;
      priority = h.card.priority;
    }

-- the line of a frame with this number, whose packet has no event, without its payload
abbrev pub untold_line : ℕ → FateLine
untold_line number =
    record {
      number = number;
      fate = fate.Unhooked;
      queue = 0;
      at = 0;
      mark = 0;
      priority = 0;
      payload = [];
    }

-- the line of the packet with this number and this last event, without its payload
abbrev pub bare_line : ℕ → Option Happening → FateLine
bare_line number None = untold_line number
bare_line number (Some h) = told_line h (untold_line number)

-- what is kept of frames from this number on, after these events
abbrev pub lasts : List Happening → ℕ → List Frame → Kept
lasts hs number [] = record { visits = []; payloads = []; lines = [] }
lasts hs number (f ∷ fs) =
    with_first (visit_of (last_of number hs None)) (payload_of f (last_of number hs None))
    (bare_line number (last_of number hs None)) (lasts hs (number + 1) fs)

-- the lines, of which the one at this place is told of an event
abbrev pub told_at : ℕ → Happening → List FateLine → List FateLine
told_at at h [] = []
told_at zero h (l ∷ ls) = told_line h l ∷ ls
told_at (suc at) h (l ∷ ls) = l ∷ told_at at h ls

-- what is kept, after one more of the packet at this place, where it has a place
abbrev pub noted_at : ℕ → Option ℕ → Happening → Kept → Kept
noted_at at None h kept = kept
noted_at at (Some visit) h kept =
    if nat_le visit h.card.visit then record {
      visits = slice_set kept.visits at h.card.visit;
      payloads = slice_set kept.payloads at h.card.bytes;
      lines = told_at at h kept.lines;
    } else kept

-- what is kept, where the packet with number 1 stands first, after one event more
abbrev pub noted : Happening → Kept → Kept
noted h kept =
    if h.card.number == 0 then kept
    else noted_at (h.card.number - 1) (slice_get kept.visits (h.card.number - 1)) h kept

abbrev pub noted_all : List Happening → Kept → Kept
noted_all [] kept = kept
noted_all (h ∷ hs) kept = noted_all hs (noted h kept)

-- the lines with their payloads
abbrev pub with_payload : List ℕ → FateLine → FateLine
with_payload payload l = record l { payload = payload }

abbrev pub with_payloads : List (List ℕ) → List FateLine → List FateLine
with_payloads [] ls = []
with_payloads (p ∷ ps) [] = []
with_payloads (p ∷ ps) (l ∷ ls) = with_payload p l ∷ with_payloads ps ls

-- the line of a packet that may have been lost, with a test for the numbers of those that were
abbrev pub lost_line : (ℕ → Bool) → FateLine → FateLine
lost_line lost l = record l { fate = fate_unless (lost l.number) l.fate }

-- ---- what an entry's reply tells

abbrev pub happening : How → Card → Happening
happening how card =
    record { queue = how.queue; at = how.at; fate = how.fate; card = card }

-- so many of the oldest leave, each with the mark and the priority that are given
abbrev pub first_leave : How → Option ℕ → Option ℕ → ℕ → Waiting → List Happening
first_leave how mark priority count ws =
    map (λ w. happening how (edited w.1 mark None priority)) (take count ws)

abbrev pub how_at : ℕ → ℕ → Fate → How
how_at queue at f = record { queue = queue; at = at; fate = f }

-- the fate of what leaves by this verdict
abbrev pub fate_of : ℕ → Fate
fate_of verdict = fate_by_verdict (way_of (decision_of verdict))

-- what is found under an id leaves with the mark, the bytes and the priority that are given
abbrev pub one_leaves : How → Option ℕ → Option (List ℕ) → Option ℕ → Option Card
    → List Happening
one_leaves how mark payload priority None = []
one_leaves how mark payload priority (Some card) =
    happening how (edited card mark payload priority) ∷ []

-- a request after which so many packets left
abbrev pub asked : ℕ → ℕ → Request → ℕ → Waiting → List Happening
asked queue at (request.Config q command params maxlen flags mask) taken ws =
    first_leave (how_at queue at fate.Unbind) None None taken ws
asked queue at (request.Verdict q (Some head) mark payload priority) taken ws =
    if taken == 0 then []
    else one_leaves (how_at queue at (fate_of head.verdict)) mark payload priority
    (lookup (is_id head.id) ws)
asked queue at (request.Verdict q None mark payload priority) taken ws = []
asked queue at (request.Batch q (Some head) mark priority) taken ws =
    first_leave (how_at queue at (fate_of head.verdict)) mark priority taken ws
asked queue at (request.Batch q None mark priority) taken ws = []

abbrev pub waiting_after_ask : Request → ℕ → Waiting → Waiting
waiting_after_ask (request.Config q command params maxlen flags mask) taken ws = drop taken ws
waiting_after_ask (request.Verdict q (Some head) mark payload priority) taken ws =
    if taken == 0 then ws else remove_entry (is_id head.id) ws
waiting_after_ask (request.Verdict q None mark payload priority) taken ws = ws
waiting_after_ask (request.Batch q (Some head) mark priority) taken ws = drop taken ws
waiting_after_ask (request.Batch q None mark priority) taken ws = ws

-- an arrival with this outcome
abbrev pub waiting_after_arrival : Card → Outcome → Waiting → Waiting
waiting_after_arrival card (outcome.Taken id) ws = ws ++ (id, card) ∷ []
waiting_after_arrival card other ws = ws

-- the events of an entry with this reply, where these wait
abbrev pub told : ℕ → ℕ → Event → Reply → Waiting → List Happening
told queue at (event.Arrive card bypass room) (reply.Arrived o) ws =
    happening (how_at queue at (fate_at_arrival o)) card ∷ []
told queue at (event.Ask port call request) (reply.Answer errno taken) ws =
    asked queue at request taken ws
told queue at (event.PortClosed port) (reply.Flushed taken) ws =
    first_leave (how_at queue at fate.PortClosed) None None taken ws
told queue at (event.DeviceDown device) (reply.Flushed taken) ws =
    first_leave (how_at queue at fate.DeviceDown) None None taken ws
told queue at event reply ws = []

-- and what waits after it
abbrev pub waiting_after : Event → Reply → Waiting → Waiting
waiting_after (event.Arrive card bypass room) (reply.Arrived o) ws =
    waiting_after_arrival card o ws
waiting_after (event.Ask port call request) (reply.Answer errno taken) ws =
    waiting_after_ask request taken ws
waiting_after (event.PortClosed port) (reply.Flushed taken) ws = drop taken ws
waiting_after (event.DeviceDown device) (reply.Flushed taken) ws = drop taken ws
waiting_after event reply ws = ws

-- ---- all queues

-- what is known of a queue; nothing of one that isn't kept
abbrev pub followed : FollowedQueues → ℕ → Option Followed
followed queues q =
    if queues.number == q then Some queues.at_hand else get nat_cmp queues.others q

-- how many entries a queue's history has, and what waits; nothing of a queue that isn't kept
abbrev pub at_in : Option Followed → ℕ
at_in None = 0
at_in (Some f) = f.at

abbrev pub waiting_in : Option Followed → Waiting
waiting_in None = []
waiting_in (Some f) = f.waiting

-- the number after this one, of 64 bits
abbrev pub place_after : ℕ → ℕ
place_after at = (at + 1) % 2 ^ 64

-- as much is known of a queue
pub record IsSameQueue (old new : Option Followed) : Type 0 where
  pub at : at_in new ≡ at_in old
  pub waiting : waiting_in new ≡ waiting_in old

-- nothing is known yet
abbrev pub AreNew : FollowedQueues → Type 0
AreNew queues = (q : ℕ) → IsSameQueue None (followed queues q)

-- the queue with this number is at hand, and nothing else changes
pub record TurnsTo (old new : FollowedQueues) (queue : ℕ) : Type 0 where
  pub number : new.number ≡ queue
  pub same : (q : ℕ) → IsSameQueue (followed old q) (followed new q)

-- this entry is followed, and the other queues stay as they were
pub record Follows (old new : FollowedQueues) (e : Entry) : Type 0 where
  pub at : at_in (followed new e.queue) ≡ place_after (at_in (followed old e.queue))
  pub waiting : waiting_in (followed new e.queue)
      ≡ waiting_after e.event e.reply (waiting_in (followed old e.queue))
  pub others : (q : ℕ) → (e.queue == q) ≡ false →
      IsSameQueue (followed old q) (followed new q)

-- the events of an entry that is followed
abbrev pub told_by : FollowedQueues → Entry → List Happening
told_by queues e =
    told e.queue (place_after (at_in (followed queues e.queue))) e.event e.reply
    (waiting_in (followed queues e.queue))

-- a queue is followed to the end of this history
pub record IsFollowed (so_far : List Entry) (f : Option Followed) : Type 0 where
  pub at : at_in f ≡ length so_far
  pub waiting : waiting_in f ≡ waiting_of (replay so_far)

-- each queue is
abbrev pub AreFollowed : List Entry → FollowedQueues → Type 0
AreFollowed before queues = (queue : ℕ) →
    IsFollowed (history queue before) (followed queues queue)
