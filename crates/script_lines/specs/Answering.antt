-- When an `on` line answers a notice, and what it asks for then.
use Rattle.std.specs.Prelude.{ℕ, Bool, List, map}
use Rattle.std.specs.List.{list_all}
use Rattle.nfqa_msgs.specs.declared.notice.Notice.{Notice}
use Rattle.script_lines.specs.declared.ask.Ask.{Ask}
use Rattle.script_lines.specs.declared.answering.OnLine.{OnLine}
use Rattle.script_lines.specs.Conditions.{holds}
use Rattle.script_lines.specs.Asking.{asked}

-- all conditions of a line hold of the port's `received`-th notice
abbrev pub holds_all : ℕ → Notice → OnLine → Bool
holds_all received n line = list_all (holds received n) line.conditions

-- the asks of a line in answer to a notice, in their order
abbrev pub asks_of : Notice → OnLine → List Ask
asks_of n line = map (asked n) line.asks
