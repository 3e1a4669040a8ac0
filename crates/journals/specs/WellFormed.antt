-- The histories that a journal tells in full, in the version that is written today.
use Rattle.std.specs.Prelude.{ℕ, All}
use Rattle.queue_core.specs.declared.event.Event.{Event}
use Rattle.queue_core.specs.declared.event.Event.TheVariants.{Arrive, Ask, PortClosed, DeviceDown}
use Rattle.queue_core.specs.declared.event.Reply.{Reply}
use Rattle.queue_core.specs.declared.event.Reply.TheVariants.{Arrived, Answer, Flushed}
use Rattle.histories.specs.declared.entry.Entry.{Entry}
use Rattle.histories.specs.declared.log.PortLog.{PortLog}
use Rattle.histories.specs.declared.histories.Histories.{Histories}
use Rattle.journals.specs.declared.version.Version.TheVariants.{Second}
use Rattle.journals.specs.Formed as formed
use Rattle.journals.specs.Formed.{FitsCard, FitsDid, FitsOutcome, FitsRequest, IsHalf}
use Rattle.journals.specs.Formed.{IsWellFormedIn, IsWide}

abbrev pub IsWellFormed : Histories → Type 0
IsWellFormed h = IsWellFormedIn Second h

abbrev pub IsEntry : Entry → Type 0
IsEntry e = formed.IsEntry Second e

abbrev pub IsEventAt : ℕ → Event → Type 0
IsEventAt queue event = formed.IsEventAt Second queue event

abbrev pub IsReplyTo : Event → Reply → Type 0
IsReplyTo event reply = formed.IsReplyTo event reply

abbrev pub IsLog : PortLog → Type 0
IsLog l = formed.IsLog Second l

-- ---- what types say: each value fits its field

abbrev pub FitsEvent : Event → Type 0
FitsEvent (Arrive card bypass room) = FitsCard Second card
FitsEvent (Ask port call request) = IsWide port × IsWide call × FitsRequest Second request
FitsEvent (PortClosed port) = IsWide port
FitsEvent (DeviceDown device) = IsWide device

abbrev pub FitsReply : Reply → Type 0
FitsReply (Arrived outcome) = FitsOutcome outcome
FitsReply (Answer errno taken) = IsHalf errno × IsWide taken
FitsReply (Flushed taken) = IsWide taken

pub record FitsEntry (e : Entry) : Type 0 where
  pub queue : IsHalf e.queue
  pub event : FitsEvent e.event
  pub reply : FitsReply e.reply

pub record FitsLog (l : PortLog) : Type 0 where
  pub port : IsWide l.port
  pub dids : All (FitsDid Second) l.dids

pub record Fit (h : Histories) : Type 0 where
  pub entries : All FitsEntry h.entries
  pub logs : All FitsLog h.logs
