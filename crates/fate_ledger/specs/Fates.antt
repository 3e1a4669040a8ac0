-- What became of a frame: the line of its packet's last event in the histories.
use Rattle.std.specs.Prelude.{ℕ, ◌+◌, List, [], ◌∷◌, ◌++◌, map, length, Option, Some, None, Bool}
use Rattle.std.specs.Prelude.{true, ◌&&◌, ◌==◌, nat_le, if◌then◌else◌}
use Rattle.std.specs.List.{list_any}
use Rattle.packet_entry.specs.declared.packet.Card.{Card}
use Rattle.pcap_io.specs.declared.capture.Frame.{Frame}
use Rattle.hook_chain.specs.declared.chain.Decision.TheVariants as decision
use Rattle.nfqa_msgs.specs.declared.request.Request.{Request}
use Rattle.nfqa_msgs.specs.declared.request.Request.TheVariants as request
use Rattle.queue_core.specs.declared.offers.Outcome.{Outcome}
use Rattle.queue_core.specs.declared.offers.Outcome.TheVariants as outcome
use Rattle.queue_core.specs.declared.event.Event.{Event}
use Rattle.queue_core.specs.declared.event.Event.TheVariants as event
use Rattle.queue_core.specs.declared.event.Reply.{Reply}
use Rattle.queue_core.specs.declared.event.Reply.TheVariants as reply
use Rattle.queue_core.specs.Step.{Way, Gone, Open, Decided, Stepped, step}
use Rattle.histories.specs.declared.entry.Entry.{Entry}
use Rattle.histories.specs.declared.histories.Lost.{Lost}
use Rattle.histories.specs.declared.histories.Histories.{Histories}
use Rattle.histories.specs.History.{history, replay}
use Rattle.fate_ledger.specs.declared.happening.Happening.{Happening}
use Rattle.fate_ledger.specs.declared.fate.Fate.{Fate}
use Rattle.fate_ledger.specs.declared.fate.Fate.TheVariants as fate
use Rattle.fate_ledger.specs.declared.fate.FateLine.{FateLine}

-- ---- fates

-- an arrival's fate: what is taken waits
abbrev pub fate_at_arrival : Outcome → Fate
fate_at_arrival (outcome.Taken id) = fate.Waiting
fate_at_arrival outcome.Overflow = fate.Overflow
fate_at_arrival outcome.OverflowOpen = fate.FailOpen
fate_at_arrival (outcome.UserFull id) = fate.UserFull
fate_at_arrival (outcome.UserFullOpen id) = fate.FailOpen
fate_at_arrival outcome.NoQueue = fate.NoQueue
fate_at_arrival outcome.Bypassed = fate.Bypass
fate_at_arrival outcome.CopyNone = fate.CopyNone
fate_at_arrival outcome.Loop = fate.Loop

-- no other reply comes at an arrival
abbrev pub fate_by_reply : Reply → Fate
fate_by_reply (reply.Arrived o) = fate_at_arrival o
fate_by_reply other = fate.Unhooked

-- The fate of what leaves by a verdict. What a verdict sends to another queue arrives there, unless
-- it is lost on the way.
abbrev pub fate_by_verdict : Way → Fate
fate_by_verdict (Decided decision.Accept) = fate.Accept
fate_by_verdict (Decided decision.Repeat) = fate.Repeat
fate_by_verdict (Decided decision.Stop) = fate.Stop
fate_by_verdict (Decided (decision.Queue number bypass)) = fate.NoMemory
fate_by_verdict (Decided decision.Drop) = fate.Dropped
fate_by_verdict Gone = fate.Dropped
fate_by_verdict Open = fate.FailOpen

-- and by a request: what waits in a queue that ends is destroyed
abbrev pub fate_by_request : Request → Way → Fate
fate_by_request (request.Config queue command params maxlen flags mask) way = fate.Unbind
fate_by_request (request.Verdict queue head mark payload priority) way = fate_by_verdict way
fate_by_request (request.Batch queue head mark priority) way = fate_by_verdict way

-- ---- events of packets

-- the events of what leaves, with the fate of each way
abbrev pub departing : ℕ → ℕ → (Way → Fate) → List (Card × Way) → List Happening
departing queue at fate_by left =
    map (λ l. record { queue = queue; at = at; fate = fate_by l.1; card = l.0 }) left

-- the packets that an entry is an event of: the one that arrives, and else those that leave
abbrev pub happens : ℕ → ℕ → Event → Stepped → List Happening
happens queue at (event.Arrive card bypass room) s =
    record { queue = queue; at = at; fate = fate_by_reply s.reply; card = card } ∷ []
happens queue at (event.Ask port call asked) s = departing queue at (fate_by_request asked) s.left
happens queue at (event.PortClosed port) s = departing queue at (λ way. fate.PortClosed) s.left
happens queue at (event.DeviceDown device) s = departing queue at (λ way. fate.DeviceDown) s.left

-- the events of an entry that stands after these: its place counts from 1 in its queue's history,
-- and its queue's state is the replay of it
abbrev pub happens_after : List Entry → Entry → List Happening
happens_after before e =
    happens e.queue (length (history e.queue before) + 1) e.event
    (step (replay (history e.queue before)) e.event)

abbrev pub happenings_after : List Entry → List Entry → List Happening
happenings_after before [] = []
happenings_after before (e ∷ es) =
    happens_after before e ++ happenings_after (before ++ e ∷ []) es

-- the events of all these entries
abbrev pub happenings : List Entry → List Happening
happenings es = happenings_after [] es

-- ---- the last event

-- whether an event is no earlier than what is kept: visits count up
abbrev pub is_later : Option Happening → Happening → Bool
is_later None h = true
is_later (Some kept) h = nat_le kept.card.visit h.card.visit

-- of what is kept and an event, the later one of the packet with this number
abbrev pub later_of : ℕ → Option Happening → Happening → Option Happening
later_of number kept h = if (h.card.number == number) && is_later kept h then Some h else kept

-- the last event of the packet with this number: that of its greatest visit, and of these the last
abbrev pub last_of : ℕ → List Happening → Option Happening → Option Happening
last_of number [] kept = kept
last_of number (h ∷ hs) kept = last_of number hs (later_of number kept h)

-- ---- lines

-- whether the packet with this number was lost between two queues
abbrev pub is_lost : List Lost → ℕ → Bool
is_lost lost number = list_any (λ (l : Lost). l.number == number) lost

-- the fate of a packet, where it isn't lost
abbrev pub fate_unless : Bool → Fate → Fate
fate_unless lost f = if lost then fate.NoMemory else f

-- the line of a frame whose packet has this last event
abbrev pub fate_line : Bool → ℕ → Frame → Option Happening → FateLine
fate_line lost number f None =
    record {
      number = number;
      fate = fate_unless lost fate.Unhooked;
      queue = 0;
      at = 0;
      mark = 0;
      priority = 0;
      payload = f.bytes;
    }
fate_line lost number f (Some h) =
    record {
      number = number;
      fate = fate_unless lost h.fate;
      queue = h.queue;
      at = h.at;
      mark = h.card.mark;
      priority = h.card.priority;
      payload = h.card.bytes;
    }

-- the lines of frames from this number on
abbrev pub fates_from : List Happening → List Lost → ℕ → List Frame → List FateLine
fates_from hs lost number [] = []
fates_from hs lost number (f ∷ fs) =
    fate_line (is_lost lost number) number f (last_of number hs None)
    ∷ fates_from hs lost (number + 1) fs

-- what became of each frame, in order
abbrev pub fates : Histories → List Frame → List FateLine
fates h frames = fates_from (happenings h.entries) h.lost 1 frames
