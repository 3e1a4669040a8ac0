-- What a port's block asks for: when the port opens, in answer to a notice, and at the end.
use Rattle.std.specs.Prelude.{ℕ, List, [], ◌∷◌, ◌++◌, map, find, Option, if◌then◌else◌}
use Rattle.std.specs.Option.{option_map_or}
use Rattle.nfqa_msgs.specs.declared.notice.Notice.{Notice}
use Rattle.script_lines.specs.declared.ask.Ask.{Ask}
use Rattle.script_lines.specs.declared.ask.Ask.TheVariants.{Words, Close}
use Rattle.script_lines.specs.declared.answering.OnLine.{OnLine}
use Rattle.script_lines.specs.Answering.{asks_of, holds_all}
use Rattle.inspector_script.specs.declared.block.Block.{Block}

-- the asks of the `open` lines, in their order
abbrev pub opening : Block → List Ask
opening b = map Words b.opening

-- the asks of the `end` lines, in their order; `end close` is the last of them
abbrev pub closing : Block → List Ask
closing b = map Words b.closing ++ (if b.closes then Close ∷ [] else [])

-- the first of the lines whose conditions all hold
abbrev pub line_for : ℕ → Notice → List OnLine → Option OnLine
line_for received n lines = find (holds_all received n) lines

-- that line answers; where there is none, nothing is asked for
abbrev pub answer_by : ℕ → Notice → List OnLine → List Ask
answer_by received n lines = option_map_or (asks_of n) (line_for received n lines) []

abbrev pub answer : ℕ → Notice → Block → List Ask
answer received n b = answer_by received n b.lines
