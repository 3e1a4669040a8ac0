-- The histories that a journal of each version tells in full: nothing was lost, the entries stand
-- by queue, no port has two logs or did anything after its closing, each request is of its entry's
-- queue and each reply of its event's kind, and each value is one that its field can hold. Version
-- 1 has no field for priorities: there each packet has priority 0, and no request sets one.
use Rattle.std.specs.Prelude.{ℕ, ◌≡◌, ◌≢◌, ◌<◌, ◌≤◌, ◌^◌, ⊤, List, [], map, All, AllPairs, Option}
use Rattle.std.specs.Prelude.{None, IfSome}
use Rattle.hex.specs.Hex.{IsBytes}
use Rattle.packet_entry.specs.declared.packet.Card.{Card}
use Rattle.nfqa_headers.specs.declared.params.Params.{Params}
use Rattle.nfqa_headers.specs.declared.verdict_header.Head.{Head}
use Rattle.nfqa_msgs.specs.declared.request.Request.{Request}
use Rattle.nfqa_msgs.specs.declared.request.Request.TheVariants.{Config, Verdict, Batch}
use Rattle.queue_core.specs.declared.offers.Outcome.{Outcome}
use Rattle.queue_core.specs.declared.offers.Outcome.TheVariants.{Taken, Overflow, OverflowOpen}
use Rattle.queue_core.specs.declared.offers.Outcome.TheVariants.{UserFull, UserFullOpen, NoQueue}
use Rattle.queue_core.specs.declared.offers.Outcome.TheVariants.{Bypassed, CopyNone, Loop}
use Rattle.queue_core.specs.declared.event.Event.{Event}
use Rattle.queue_core.specs.declared.event.Event.TheVariants.{Arrive, Ask, PortClosed, DeviceDown}
use Rattle.queue_core.specs.declared.event.Reply.{Reply}
use Rattle.queue_core.specs.declared.event.Reply.TheVariants.{Arrived, Answer, Flushed}
use Rattle.histories.specs.declared.entry.Entry.{Entry}
use Rattle.histories.specs.declared.log.Did.{Did}
use Rattle.histories.specs.declared.log.Did.TheVariants.{Received, Sent, Closed}
use Rattle.histories.specs.declared.log.AskWords.{AskWords}
use Rattle.histories.specs.declared.log.AskWords.TheVariants.{Plain, Raw}
use Rattle.histories.specs.declared.log.PortLog.{PortLog}
use Rattle.histories.specs.declared.histories.Histories.{Histories}
use Rattle.histories.specs.Happenings.{queue_of}
use Rattle.journals.specs.declared.version.Version.{Version}
use Rattle.journals.specs.declared.version.Version.TheVariants.{First, Second}

-- ---- what fields hold

-- a number of 32 bits, of 16, and of 8
abbrev pub IsWide : ℕ → Type 0
IsWide n = n < 2 ^ 32

abbrev pub IsHalf : ℕ → Type 0
IsHalf n = n < 2 ^ 16

abbrev pub IsSmall : ℕ → Type 0
IsSmall n = n < 2 ^ 8

abbrev pub FitsPriority : Version → ℕ → Type 0
FitsPriority First n = n ≡ 0
FitsPriority Second n = IsWide n

-- the priority that a request sets
abbrev pub FitsNewPriority : Version → Option ℕ → Type 0
FitsNewPriority First n = n ≡ None
FitsNewPriority Second n = IfSome n IsWide

pub record FitsCard (v : Version) (c : Card) : Type 0 where
  pub number : IsWide c.number
  pub visit : IsWide c.visit
  pub table : IsHalf c.table
  pub mark : IsWide c.mark
  pub priority : FitsPriority v c.priority
  pub seconds : IsWide c.seconds
  pub micros : IsWide c.micros
  pub protocol : IsHalf c.protocol
  pub link : IsBytes c.link
  pub bytes : IsBytes c.bytes

pub record FitsParams (p : Params) : Type 0 where
  pub mode : IsSmall p.mode
  pub range : IsWide p.range

pub record FitsHead (h : Head) : Type 0 where
  pub verdict : IsWide h.verdict
  pub id : IsWide h.id

pub record FitsConfig (queue : ℕ) (command : Option ℕ) (params : Option Params)
    (maxlen flags mask : Option ℕ) : Type 0 where
  pub queue_fits : IsHalf queue
  pub command_fits : IfSome command IsSmall
  pub params_fit : IfSome params FitsParams
  pub maxlen_fits : IfSome maxlen IsWide
  pub flags_fits : IfSome flags IsWide
  pub mask_fits : IfSome mask IsWide

pub record FitsVerdict (v : Version) (queue : ℕ) (head : Option Head) (mark : Option ℕ)
    (payload : Option (List ℕ)) (priority : Option ℕ) : Type 0 where
  pub queue_fits : IsHalf queue
  pub head_fits : IfSome head FitsHead
  pub mark_fits : IfSome mark IsWide
  pub payload_fits : IfSome payload IsBytes
  pub priority_fits : FitsNewPriority v priority

abbrev pub FitsRequest : Version → Request → Type 0
FitsRequest v (Config queue command params maxlen flags mask) =
    FitsConfig queue command params maxlen flags mask
FitsRequest v (Verdict queue head mark payload priority) =
    FitsVerdict v queue head mark payload priority
FitsRequest v (Batch queue head mark priority) = FitsVerdict v queue head mark None priority

abbrev pub FitsOutcome : Outcome → Type 0
FitsOutcome (Taken id) = IsWide id
FitsOutcome Overflow = ⊤
FitsOutcome OverflowOpen = ⊤
FitsOutcome (UserFull id) = IsWide id
FitsOutcome (UserFullOpen id) = IsWide id
FitsOutcome NoQueue = ⊤
FitsOutcome Bypassed = ⊤
FitsOutcome CopyNone = ⊤
FitsOutcome Loop = ⊤

-- ---- entries

-- the values of an event fit, and a request is of the entry's queue
abbrev pub IsEventAt : Version → ℕ → Event → Type 0
IsEventAt v queue (Arrive card bypass room) = FitsCard v card
IsEventAt v queue (Ask port call request) =
    IsWide port × IsWide call × FitsRequest v request × (queue_of request ≡ queue)
IsEventAt v queue (PortClosed port) = IsWide port
IsEventAt v queue (DeviceDown device) = IsWide device

-- a reply of this event's kind, whose values fit
abbrev pub IsReplyTo : Event → Reply → Type 0
IsReplyTo (Arrive card bypass room) (Arrived outcome) = FitsOutcome outcome
IsReplyTo (Ask port call request) (Answer errno taken) = IsHalf errno × IsWide taken
IsReplyTo (PortClosed port) (Flushed taken) = IsWide taken
IsReplyTo (DeviceDown device) (Flushed taken) = IsWide taken
IsReplyTo e r = ⊥

pub record IsEntry (v : Version) (e : Entry) : Type 0 where
  pub queue : IsHalf e.queue
  pub event : IsEventAt v e.queue e.event
  pub reply : IsReplyTo e.event e.reply

-- ---- logs

abbrev pub FitsAsk : Version → AskWords → Type 0
FitsAsk v (Plain request) = FitsRequest v request
FitsAsk v (Raw bytes) = IsBytes bytes

abbrev pub FitsDid : Version → Did → Type 0
FitsDid v (Received queue number visit) = IsHalf queue × IsWide number × IsWide visit
FitsDid v (Sent call asked answer) = IsWide call × FitsAsk v asked × IfSome answer IsHalf
FitsDid v Closed = ⊤

-- of any two things that a port did, the first isn't its closing
pub record IsLog (v : Version) (l : PortLog) : Type 0 where
  pub port : IsWide l.port
  pub dids : All (FitsDid v) l.dids
  pub closed_last : AllPairs (λ a b. a ≢ Closed) l.dids

-- ---- all of it

pub record IsWellFormedIn (v : Version) (h : Histories) : Type 0 where
  pub nothing_lost : h.lost ≡ []
  pub entries : All (IsEntry v) h.entries
  pub queues_ascend : AllPairs (λ a b. a.queue ≤ b.queue) h.entries
  pub logs : All (IsLog v) h.logs
  pub ports_differ : AllPairs (λ a b. a ≢ b) (map (λ (l : PortLog). l.port) h.logs)
