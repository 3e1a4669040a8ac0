-- What a port sends, whatever it had done before, and however many work out its answers.
use Rattle.std.specs.Prelude.{ℕ, List}
use Rattle.netlink_codec.specs.Messages.{NetlinkMessage}
use Rattle.histories.specs.declared.log.AskWords.{AskWords}
use Rattle.script_lines.specs.declared.ask.Ask.{Ask}
use Rattle.inspector_script.specs.Scripts.{ScriptValue}
use Rattle.run_parts.specs.Datagrams.{messages_in}
use Rattle.run_parts.specs.Log.{Due, Note}
use Rattle.live_runs.specs.Doing.{HasAsked, HasSent, IsCutting, IsDoing}
use Rattle.live_runs.specs.Passes.{Pass}
use Rattle.live_runs.specs.Stages.{MaySpeak, Stage}
use Rattle.live_runs.specs.Stands.{Side, side}

-- of the messages that bytes are cut into, these are left
pub record HasCutTo (script : ScriptValue) (places port : ℕ) (bytes : List ℕ)
    (left : List NetlinkMessage) (old new : Pass) : Type 0 where
  pub on : (workers : ℕ) (stage : Stage) (was : List Note) (start : Pass) (x : Side)
      (ds : List Due) → MaySpeak script.ports port stage x →
      IsCutting workers script places stage port was start x (messages_in bytes) ds old →
      IsCutting workers script places stage port was start x left ds new

-- all of them were sent
pub record HasCut (script : ScriptValue) (places port : ℕ) (bytes : List ℕ) (old new : Pass)
    : Type 0 where
  pub on : (workers : ℕ) (stage : Stage) (was : List Note) (start : Pass) (x : Side)
      (ds : List Due) → MaySpeak script.ports port stage x →
      IsCutting workers script places stage port was start x (messages_in bytes) ds old →
      IsDoing workers script places stage port was start (side x ds) new

-- the messages of an ask were sent
pub record Says (script : ScriptValue) (places port : ℕ) (words : AskWords) (old new : Pass)
    : Type 0 where
  pub each : (workers : ℕ) → HasSent workers script places port words old new

-- of these asks, which were due, these are left
pub record SaysTo (script : ScriptValue) (places port : ℕ) (asks left : List Ask) (old new : Pass)
    : Type 0 where
  pub each : (workers : ℕ) → HasAsked workers script places port asks left old new
