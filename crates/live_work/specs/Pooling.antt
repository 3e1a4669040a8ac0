-- How a port with a pool behind it goes on answering: it receives notices while their answers wait,
-- and then sends these.
use Rattle.std.specs.Prelude.{◌≡◌, ◌+◌, ℕ, Bool, true, List, [], ◌∷◌, ◌++◌, map, if◌then◌else◌}
use Rattle.std.specs.Prelude.{length}
use Rattle.nfqa_msgs.specs.declared.notice.Notice.{Notice}
use Rattle.script_lines.specs.declared.ask.Ask.{Ask}
use Rattle.inspector_script.specs.Scripts.{Machine, ScriptValue}
use Rattle.inspector_pool.specs.Answers.{answers}
use Rattle.run_parts.specs.Log.{Due, all_due, is_pool}
use Rattle.plane.specs.Passes.{PortView}
use Rattle.live_runs.specs.Doing.{LeavesWaiting}
use Rattle.live_passes.specs.Views.{port_pass}

-- Nothing is asked for in answer to a notice that can't be read.
abbrev pub unread_group : Bool → List (List Due)
unread_group unread = if unread then [] ∷ [] else []

-- the groups of answers to these notices, before which so many were counted, and to one behind them
-- that can't be read
abbrev pub groups : ScriptValue → Machine → List Notice → Bool → List (List Due)
groups script m notices unread =
    if unread
    then map all_due (answers script m.place m.received notices) ++ [] ∷ []
    else map all_due (answers script m.place m.received notices)

-- how many notices these are, with the one behind them that can't be read
abbrev pub as_many_as : List Notice → Bool → ℕ
as_many_as notices unread = if unread then length notices + 1 else length notices

-- These notices were received, and one more where it couldn't be read; their answers wait.
pub record HasReceived (script : ScriptValue) (places : ℕ) (m : Machine) (notices : List Notice)
    (unread : Bool) (old new : PortView) : Type 0 where
  pub port : new.port ≡ old.port
  pub waits : (workers : ℕ) → is_pool workers ≡ true →
      LeavesWaiting workers script places old.port (groups script m notices unread)
      (port_pass old) (port_pass new)

-- Wherever these answers waited, with others behind them, those of them that are left wait now.
pub record LeavesAnswers (script : ScriptValue) (places : ℕ) (all left : List (List Ask))
    (old new : PortView) : Type 0 where
  pub on : (workers : ℕ) (rest : List (List Due)) (start : PortView) → is_pool workers ≡ true →
      old.port ≡ start.port →
      LeavesWaiting workers script places start.port (map all_due all ++ rest) (port_pass start)
      (port_pass old) →
      LeavesWaiting workers script places start.port (map all_due left ++ rest)
      (port_pass start) (port_pass new)
