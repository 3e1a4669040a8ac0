-- What an audit finds: whether histories are those of a run, or the first of four checks that says
-- they aren't, and where.
use Rattle.std.specs.Prelude.{◌≡◌, ℕ, List, [], length, Option, MatchOption}
use Rattle.hook_chain.specs.Rules.{RuleTables}
use Rattle.inspector_script.specs.Scripts.{ScriptValue}
use Rattle.pcap_io.specs.declared.capture.Capture.{Capture}
use Rattle.histories.specs.declared.histories.Histories.{Histories}
use Rattle.histories.specs.History.{AreLegal}
use Rattle.histories.specs.Journeys.{AreSound}
use Rattle.total_order.specs.TotalOrder.{HasTotalOrder}
use Rattle.run_parts.specs.Entering.{cards}
use Rattle.run_parts.specs.Log.{Note}
use Rattle.run_parts.specs.Run.{IsMadeBy}
use Rattle.port_audit.specs.Makers.{none_left}
use Rattle.journey_audit.specs.Unmet.{IsLeastUnmet}
use Rattle.journal_audit.specs.Illegal.{IsFirstPlace}
use Rattle.journal_audit.specs.Parts.{IsFirstWrong}
use Rattle.journal_audit.specs.declared.finding.Finding.{Finding}
use Rattle.journal_audit.specs.declared.finding.Finding.TheVariants.{Entry, Record, Makers, Order}

-- Histories of a run of this script over this capture, under these rules, in which nothing is lost,
-- with so many workers behind each port and so many feeders.
pub record IsRunBy (workers feeders : ℕ) (tables : RuleTables) (script : ScriptValue)
    (c : Capture) (h : Histories) : Type 0 where
  pub nothing_lost : h.lost ≡ []
  -- at each queue, each event may happen in the state that the sequential queue reaches by the
  -- entries before it, and each reply is the one of its step
  pub legal : AreLegal h.entries
  -- packets enter, and move from queue to queue, as rules and verdicts say
  pub sound : AreSound tables script.key (cards c) h.entries h.lost
  -- each port did what the script says, which is told in full, and received every notice that was
  -- for it
  pub notes : ℕ → List Note
  pub made : IsMadeBy workers feeders script (length c.frames) h notes none_left
  -- all events of all queues have one order, in which nothing comes before what it rests on
  pub order : HasTotalOrder h

-- those of a run with one inspector behind each port and one feeder
abbrev pub IsRunOf : RuleTables → ScriptValue → Capture → Histories → Type 0
IsRunOf tables script c h = IsRunBy 1 1 tables script c h

-- what is found of histories that aren't those of a run
abbrev pub IsFound : RuleTables → ScriptValue → Capture → Histories → Finding → Type 0
-- a history isn't legal: the least such queue, and its shortest beginning that isn't
IsFound tables script c h (Entry place) =
    (AreLegal h.entries → ⊥) × IsFirstPlace h.entries place
-- all are legal, and not sound: the least number of a packet with arrivals that it shouldn't have,
-- or without some that it should
IsFound tables script c h (Record number) =
    AreLegal h.entries × (AreSound tables script.key (cards c) h.entries h.lost → ⊥)
    × IsLeastUnmet tables script.key (cards c) h.entries number
-- they are sound as well, and the script didn't make them: the first part that doesn't hold
IsFound tables script c h (Makers part) =
    AreLegal h.entries × AreSound tables script.key (cards c) h.entries h.lost
    × IsFirstWrong script (length c.frames) h part
-- nothing is lost and the script made them, and still all their events have no order
IsFound tables script c h Order =
    AreLegal h.entries × AreSound tables script.key (cards c) h.entries h.lost × (h.lost ≡ [])
    × ((notes : ℕ → List Note) × IsMadeBy 1 1 script (length c.frames) h notes none_left)
    × (HasTotalOrder h → ⊥)

-- what an audit answers: nothing of a run
abbrev pub IsAnswer : RuleTables → ScriptValue → Capture → Histories → Option Finding → Type 0
IsAnswer tables script c h found =
    MatchOption found (IsRunOf tables script c h) (IsFound tables script c h)
