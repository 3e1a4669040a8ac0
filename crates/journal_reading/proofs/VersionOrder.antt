-- What version 1 tells in full, version 2 does too; and the first line of a journal.
use Rattle.std.proofs.Common.{◌≡◌, ◌∙◌, ℕ, List, Option, None, refl, sym, ap}
use Rattle.std.proofs.Common.{subst, arith}
use Rattle.std.specs.Prelude.{IfSome}
use Rattle.packet_entry.specs.declared.packet.Card.{Card}
use Rattle.nfqa_headers.specs.declared.verdict_header.Head.{Head}
use Rattle.nfqa_msgs.specs.declared.request.Request.{Request}
use Rattle.nfqa_msgs.specs.declared.request.Request.TheVariants.{Config, Verdict, Batch}
use Rattle.queue_core.specs.declared.event.Event.{Event}
use Rattle.queue_core.specs.declared.event.Event.TheVariants.{Arrive, Ask, PortClosed, DeviceDown}
use Rattle.histories.specs.declared.entry.Entry.{Entry}
use Rattle.histories.specs.declared.log.Did.{Did}
use Rattle.histories.specs.declared.log.Did.TheVariants.{Received, Sent, Closed}
use Rattle.histories.specs.declared.log.AskWords.{AskWords}
use Rattle.histories.specs.declared.log.AskWords.TheVariants.{Plain, Raw}
use Rattle.histories.specs.declared.log.PortLog.{PortLog}
use Rattle.histories.specs.declared.histories.Histories.{Histories}
use Rattle.journals.specs.declared.version.Version.{Version}
use Rattle.journals.specs.declared.version.Version.TheVariants.{First, Second}
use Rattle.journals.specs.Format.{journal_in}
use Rattle.journals.specs.Formed.{FitsAsk, FitsCard, FitsDid}
use Rattle.journals.specs.Formed.{FitsRequest, FitsVerdict, IsEntry, IsEventAt, IsLog, IsWide}
use Rattle.journals.specs.Formed.{IsWellFormedIn}
use Rattle.journal_reading.specs.JournalFile.{IsJournal, version_of}

-- ---- the first line

pub names : (v : Version) (text : List ℕ) (h : Histories) → IsJournal v text h →
    version_of text ≡ v
names First text h is = ap version_of is.text_is ∙ refl
names Second text h is = ap version_of is.text_is ∙ refl

-- ---- each value fits

zero_fits : (n : ℕ) → n ≡ 0 → IsWide n
zero_fits n none = omega (arith, none)

none_fits : (n : Option ℕ) → n ≡ None → IfSome n IsWide
none_fits n none = subst (λ (o : Option ℕ). IfSome o IsWide) (sym none) tt

card_fits : (c : Card) → FitsCard First c → FitsCard Second c
card_fits c fits = record {
  number = fits.number;
  visit = fits.visit;
  table = fits.table;
  mark = fits.mark;
  priority = zero_fits c.priority fits.priority;
  seconds = fits.seconds;
  micros = fits.micros;
  protocol = fits.protocol;
  link = fits.link;
  bytes = fits.bytes;
}

verdict_fits : (queue : ℕ) (head : Option Head) (mark : Option ℕ) (payload : Option (List ℕ))
    (n : Option ℕ) → FitsVerdict First queue head mark payload n →
    FitsVerdict Second queue head mark payload n
verdict_fits queue head mark payload n fits = record {
  queue_fits = fits.queue_fits;
  head_fits = fits.head_fits;
  mark_fits = fits.mark_fits;
  payload_fits = fits.payload_fits;
  priority_fits = none_fits n fits.priority_fits;
}

request_fits : (r : Request) → FitsRequest First r → FitsRequest Second r
request_fits (Config queue command params maxlen flags mask) fits = fits
request_fits (Verdict queue head mark payload n) fits =
    verdict_fits queue head mark payload n fits
request_fits (Batch queue head mark n) fits = verdict_fits queue head mark None n fits

event_fits : (queue : ℕ) (e : Event) → IsEventAt First queue e → IsEventAt Second queue e
event_fits queue (Arrive card bypass room) fits = card_fits card fits
event_fits queue (Ask port call request) fits =
    (fits.0, fits.1, request_fits request fits.2, fits.3)
event_fits queue (PortClosed port) fits = fits
event_fits queue (DeviceDown device) fits = fits

entry_fits : (e : Entry) → IsEntry First e → IsEntry Second e
entry_fits e is = record {
  queue = is.queue;
  event = event_fits e.queue e.event is.event;
  reply = is.reply;
}

ask_fits : (a : AskWords) → FitsAsk First a → FitsAsk Second a
ask_fits (Plain request) fits = request_fits request fits
ask_fits (Raw bytes) fits = fits

did_fits : (d : Did) → FitsDid First d → FitsDid Second d
did_fits (Received queue number visit) fits = fits
did_fits (Sent call asked answer) fits = (fits.0, ask_fits asked fits.1, fits.2)
did_fits Closed fits = fits

log_fits : (l : PortLog) → IsLog First l → IsLog Second l
log_fits l is = record {
  port = is.port;
  dids = λ k d within. did_fits _ (is.dids k d within);
  closed_last = is.closed_last;
}

well_formed : (h : Histories) → IsWellFormedIn First h → IsWellFormedIn Second h
well_formed h is = record {
  nothing_lost = is.nothing_lost;
  entries = λ k d within. entry_fits _ (is.entries k d within);
  queues_ascend = is.queues_ascend;
  logs = λ k d within. log_fits _ (is.logs k d within);
  ports_differ = is.ports_differ;
}

-- ---- the journal of today

by_version : (v : Version) (h : Histories) → IsWellFormedIn v h → IsWellFormedIn Second h
by_version First h is = well_formed h is
by_version Second h is = is

pub of_today : (v : Version) (text : List ℕ) (h : Histories) → IsJournal v text h →
    IsJournal Second (journal_in Second h) h
of_today v text h is = record { well_formed = by_version v h is.well_formed; text_is = refl }
