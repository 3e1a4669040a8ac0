-- What lies on the desk of a port.
use Rattle.std.specs.Prelude.{◌≡◌, ◌<◌, ℕ, List, length, All, IfSome}
use Rattle.nfqa_msgs.specs.declared.notice.Notice.{Notice}
use Rattle.script_lines.specs.declared.ask.Ask.{Ask}
use Rattle.script_lines.specs.Limits.{IsAsk}
use Rattle.inspector_script.specs.Scripts.{ScriptValue, answer, next_count}
use Rattle.inspector_pool.specs.Numbers.{most_notices}
use Rattle.inspector_pool.specs.declared.sheet.AnsweringPort.{AnsweringPort}
use Rattle.inspector_pool.specs.declared.sheet.Sheet.{Sheet}

-- This is what the port at this place asks for in answer to the notice before which it counted so
-- many.
pub record IsAnswerTo (s : ScriptValue) (place counted : ℕ) (n : Notice) (given : List Ask)
    : Type 0 where
  pub asks : given ≡ answer s place (next_count counted) n
  pub fit : All IsAsk given

-- what lies beside a notice is the port's answer to it
abbrev pub IsSheetOf : AnsweringPort → Sheet → Type 0
IsSheetOf port sheet =
    IfSome sheet.answer
    (IsAnswerTo port.script.value port.place sheet.counted sheet.notice)

-- it is the script's port at this place
pub record IsPort (s : ScriptValue) (at : ℕ) (port : AnsweringPort) : Type 0 where
  pub script : port.script.value ≡ s
  pub place : port.place ≡ at

-- a desk of the script's port at this place, with room for all notices of a batch
pub record IsFurnished (s : ScriptValue) (place : ℕ) (slots : List AnsweringPort) : Type 0 where
  pub has_port : place < length s.ports
  pub room : length slots ≡ most_notices
  pub each : All (IsPort s place) slots
