-- What is known of a run's histories: each packet of the capture is accounted for.
use Rattle.std.specs.Prelude.{◌≡◌, ◌≢◌, ℕ, ◌+◌, List, Some, map, filter, slice_get}
use Rattle.std.specs.List.{zip}
use Rattle.pcap_io.specs.declared.capture.Capture.{Capture}
use Rattle.pcap_io.specs.declared.capture.Frame.{Frame}
use Rattle.hook_chain.specs.Rules.{RuleTables}
use Rattle.histories.specs.declared.histories.Histories.{Histories}
use Rattle.histories.specs.Moves.{moves}
use Rattle.histories.specs.Endings.{AreQueuesOf, times_waiting, times_over, times_entered}
use Rattle.inspector_script.specs.Scripts.{ScriptValue}
use Rattle.run_parts.specs.Entering.{cards}
use Rattle.solo_schedule.specs.Schedule.{IsSolo}
use Rattle.fate_ledger.specs.declared.fate.Fate.TheVariants.{Waiting}
use Rattle.fate_ledger.specs.declared.fate.FateLine.{FateLine}
use Rattle.fate_ledger.specs.declared.happening.Happening.{Happening}
use Rattle.fate_ledger.specs.Laws.{AreApart, IsLastEvent, IsLineOf, LeftForGood, Waits}
use Rattle.fate_ledger.specs.Ledger.{is_release}
use Rattle.fate_ledger.specs.Released as released
use Rattle.journals.specs.WellFormed.{IsWellFormed}
use Rattle.journal_audit.specs.Findings.{IsRunBy}
use Rattle.run_files.specs.Outputs.{fates_of}

-- Each frame's line is that of its packet's last event in these histories, or that of a frame whose
-- packet has none. Where the line doesn't say that the packet waits, it left in that event's step
-- for good, and was released or destroyed there as its fate says; where it does, the packet still
-- waits at that event's queue.
pub record AreLinesOf (tables : RuleTables) (key : ℕ) (c : Capture) (h : Histories)
    : Type 0 where
  pub named : (place : ℕ) (f : Frame) (l : FateLine) → slice_get c.frames place ≡ Some f →
      slice_get (fates_of c h) place ≡ Some l → IsLineOf h (place + 1) f l
  pub left : (number : ℕ) (last : Happening) → IsLastEvent h.entries number last →
      last.fate ≢ Waiting → LeftForGood tables key h.entries last
  pub waits : (number : ℕ) (last : Happening) → IsLastEvent h.entries number last →
      last.fate ≡ Waiting → Waits h.entries last

-- Each packet that met a queue is over or still waits, just one of the two and just once, whichever
-- queues it went through.
abbrev pub IsEachOnce : RuleTables → ScriptValue → Capture → Histories → Type 0
IsEachOnce tables script c h =
    (number : ℕ) (queues : List ℕ) → AreQueuesOf h.entries queues →
    times_waiting number queues h.entries
    + times_over tables script.key number (moves h.entries)
    ≡ times_entered tables script.key number (cards c)

-- the frames that are written are those whose fate is a release, in their order
abbrev pub AreReleased : Capture → Histories → Type 0
AreReleased c h =
    released.frames c.link c.frames (fates_of c h)
    ≡ map (λ p. released.written c.link p.0 p.1)
    (filter (λ p. is_release p.1.fate) (zip c.frames (fates_of c h)))

-- Histories of a run of this script over this capture, under these rules, with so many workers
-- behind each port and so many feeders: nothing is lost, they are legal and sound, the ports made
-- them by the script, and all events have one order; and what follows.
pub record AreAccounted (workers feeders : ℕ) (tables : RuleTables) (script : ScriptValue)
    (c : Capture) (h : Histories) : Type 0 where
  pub run : IsRunBy workers feeders tables script c h
  -- a journal tells them in full, and is theirs alone: each value fits its field, entries stand by
  -- queue, and a port did nothing behind its closing
  pub formed : IsWellFormed h
  -- no packet came twice at one visit, and each is over or waits
  pub apart : AreApart h.entries
  pub once : IsEachOnce tables script c h
  pub lines : AreLinesOf tables script.key c h
  pub released : AreReleased c h

-- The same of the histories of the run on one thread, with one of each: they are those of its
-- schedule, which has no others.
pub record IsAccounted (tables : RuleTables) (script : ScriptValue) (c : Capture)
    (h : Histories) : Type 0 where
  pub schedule : IsSolo script tables c h
  pub only : (g : Histories) → IsSolo script tables c g → g ≡ h
  pub run : AreAccounted 1 1 tables script c h
