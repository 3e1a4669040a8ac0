-- What a port does in a stage, call by call.
use Rattle.std.specs.Prelude.{◌≡◌, ◌<◌, ◌⊎◌, ℕ, Bool, true, false, List, [], ◌∷◌, ◌++◌, map, All}
use Rattle.std.specs.List.{list_any}
use Rattle.netlink_codec.specs.Messages.{NetlinkMessage}
use Rattle.histories.specs.declared.log.AskWords.{AskWords}
use Rattle.histories.specs.declared.log.Did.{Did}
use Rattle.histories.specs.Logs.{is_received}
use Rattle.script_lines.specs.declared.ask.Ask.{Ask}
use Rattle.script_lines.specs.declared.ask.Ask.TheVariants.{Words}
use Rattle.inspector_script.specs.Scripts.{ScriptValue}
use Rattle.run_parts.specs.Datagrams.{AsksWell}
use Rattle.run_parts.specs.Log.{Note, Due, Message, Still, all_due}
use Rattle.run_parts.specs.Log.{is_some_due}
use Rattle.live_runs.specs.Seen.{Seen, Shares, entries, IsNone, OursAre, TheirsAre, EachIs, Grows}
use Rattle.live_runs.specs.Meetings.{IsAsk}
use Rattle.live_runs.specs.Owners.{IsAskingOf}
use Rattle.live_runs.specs.Passes.{Pass}
use Rattle.live_runs.specs.Ports.{IsPort}
use Rattle.live_runs.specs.Stages.{Stage, Opening, Working, Ending, Adds, early_of, late_of}
use Rattle.live_runs.specs.Stages.{MaySpeak}
use Rattle.live_runs.specs.Stands.{Now, Side, Stand, side, cut_side, idle}

-- Where nothing but requests stands, and no pass but this one appends anything, it appends requests
-- alone: nothing waits, and so nothing is handed on.
pub record IsQuiet (places : ℕ) (old new : Shares) : Type 0 where
  pub more : ℕ → List Seen
  pub is : (k : ℕ) → new k ≡ old k ++ more k
  pub quiet : ((k : ℕ) → k < places → EachIs IsAsk (entries (old k))) →
      ((k : ℕ) → k < places → TheirsAre IsNone (more k)) → (k : ℕ) → k < places →
      OursAre IsAsk (more k)

-- a port that opens has received no notice; one that owes answers has
abbrev pub HasHeard : Stage → Stand → List Did → Type 0
HasHeard (Opening place) t dids = list_any is_received dids ≡ false
HasHeard Working t dids =
    ((t.owed ≡ []) × (t.pending ≡ [])) ⊎ (list_any is_received dids ≡ true)
HasHeard (Ending place) t dids =
    ((t.owed ≡ []) × (t.pending ≡ [])) ⊎ (list_any is_received dids ≡ true)

-- A port's pass in a stage, from what it had noted and seen at the meeting before: what it did and
-- how it stands, and that what it appended is its own.
pub record IsDoing (workers : ℕ) (script : ScriptValue) (places : ℕ) (stage : Stage) (port : ℕ)
    (was : List Note) (start : Pass) (t : Stand) (pass : Pass) : Type 0 where
  pub notes : List Note
  pub is : IsPort workers script places port notes t pass
  pub adds : Adds workers script (early_of script.ports stage) (late_of stage) port was notes
  pub has_heard : HasHeard stage t pass.dids
  pub grows : (k : ℕ) → Grows (IsAskingOf port) (start.shares k) (pass.shares k)
  pub quiet : IsQuiet places start.shares pass.shares

-- It is to send these messages, each with a payload that fits, and then owes these. Before the
-- first of them it has just taken up their ask.
pub record IsCutting (workers : ℕ) (script : ScriptValue) (places : ℕ) (stage : Stage) (port : ℕ)
    (was : List Note) (start : Pass) (x : Side) (ms : List NetlinkMessage) (ds : List Due)
    (pass : Pass) : Type 0 where
  pub fresh : Bool
  pub some : fresh ≡ true → is_some_due (map Message ms) ≡ true
  pub short : All AsksWell ms
  pub is : IsDoing workers script places stage port was start
      (cut_side x (map Message ms ++ ds) fresh) pass

-- whether answers are sent in a stage
abbrev pub IsAnswering : Stage → Type 0
IsAnswering (Opening place) = ⊥
IsAnswering Working = Unit {0}
IsAnswering (Ending place) = Unit {0}

-- Whatever the port had done before, where it may speak: it has sent the messages of these words,
-- which were due.
pub record HasSent (workers : ℕ) (script : ScriptValue) (places port : ℕ) (words : AskWords)
    (old new : Pass) : Type 0 where
  pub on : (stage : Stage) (was : List Note) (start : Pass) (x : Side) (ds : List Due) →
      MaySpeak script.ports port stage x →
      IsDoing workers script places stage port was start (side x (Still (Words words) ∷ ds)) old →
      IsDoing workers script places stage port was start (side x ds) new

-- Whatever it had done before, where it may speak: of these asks, which were due, these are left.
pub record HasAsked (workers : ℕ) (script : ScriptValue) (places port : ℕ) (asks left : List Ask)
    (old new : Pass) : Type 0 where
  pub on : (stage : Stage) (was : List Note) (start : Pass) (x : Side) →
      MaySpeak script.ports port stage x →
      IsDoing workers script places stage port was start (side x (all_due asks)) old →
      IsDoing workers script places stage port was start (side x (all_due left)) new

-- Whatever it had done before, in a stage in which answers are sent: it owed nothing and owes
-- nothing now.
pub record GoesOn (workers : ℕ) (script : ScriptValue) (places port : ℕ) (old new : Pass)
    : Type 0 where
  pub on : (stage : Stage) (was : List Note) (start : Pass) (ends : List Due) →
      IsAnswering stage → IsDoing workers script places stage port was start (idle ends) old →
      IsDoing workers script places stage port was start (idle ends) new

-- Whatever it had done before, in a stage in which answers are sent: it owed nothing and owes
-- nothing now, and these groups of answers wait behind a pool.
pub record LeavesWaiting (workers : ℕ) (script : ScriptValue) (places port : ℕ)
    (groups : List (List Due)) (old new : Pass) : Type 0 where
  pub on : (stage : Stage) (was : List Note) (start : Pass) (ends : List Due) →
      IsAnswering stage → IsDoing workers script places stage port was start (idle ends) old →
      IsDoing workers script places stage port was start (side (Now groups ends) []) new
