-- What a script asks for isn't too long.
use Rattle.std.proofs.Common.{ℕ, Bool, true, false, List, [], ◌∷◌, map, Option, Some}
use Rattle.std.proofs.Common.{None, All, find}
use Rattle.std.specs.Prelude.{IfSome, if◌then◌else◌}
use Rattle.std.specs.Option.{option_map_or}
use Rattle.std.proofs.lemmas.List.Elements.{All-append, All-cons, All-map, All-nil}
use Rattle.std.proofs.lemmas.List.Elements.{All-weaker}
use Rattle.nfqa_msgs.specs.declared.notice.Notice.{Notice}
use Rattle.script_lines.specs.declared.ask.Ask.TheVariants.{Words, Close}
use Rattle.script_lines.specs.declared.answering.OnLine.{OnLine}
use Rattle.inspector_script.specs.declared.block.Block.{Block}
use Rattle.script_lines.specs.declared.template.Template.{Template}
use Rattle.script_lines.specs.declared.template.Template.TheVariants.{Config, Verdict, Batch, Raw}
use Rattle.script_lines.specs.Asking.{asked}
use Rattle.script_lines.specs.Answering.{asks_of, holds_all}
use Rattle.script_lines.specs.Limits.{IsAsk, IsOnLine, IsTemplate}
use Rattle.inspector_script.specs.Blocks as block
use Rattle.inspector_script.specs.Scripts.{IsBlock}
use Rattle.inspector_script.proofs.FirstMatch.{found_keeps}

asked_fits : (n : Notice) (t : Template) → IsTemplate t → IsAsk (asked n t)
asked_fits n (Config queue settings) h = h
asked_fits n (Verdict judgement payload) h = h
asked_fits n (Batch judgement) h = h
asked_fits n (Raw bytes) h = h

all_asked_fit : (n : Notice) (ts : List Template) → All IsTemplate ts →
    All IsAsk (map (asked n) ts)
all_asked_fit n ts all =
    All-map IsAsk (asked n) ts
    (All-weaker IsTemplate (λ t. IsAsk (asked n t)) (asked_fits n) ts all)

from_line : (n : Notice) (o : Option OnLine) → IfSome o IsOnLine →
    All IsAsk (option_map_or (asks_of n) o [])
from_line n None h = All-nil IsAsk
from_line n (Some line) h = all_asked_fit n line.asks h.each

last_fits : (b : Bool) → All IsAsk (if b then Close ∷ [] else [])
last_fits true = All-cons IsAsk Close [] tt (All-nil IsAsk)
last_fits false = All-nil IsAsk

-- at the opening
pub opening_fits : (b : Block) → IsBlock b → All IsAsk (block.opening b)
opening_fits b h = All-map IsAsk Words b.opening h.opening_asks

-- in answer to a notice
pub answer_fits : (received : ℕ) (n : Notice) (b : Block) → IsBlock b →
    All IsAsk (block.answer received n b)
answer_fits received n b h =
    from_line n (find (holds_all received n) b.lines)
    (found_keeps (holds_all received n) IsOnLine b.lines h.on_lines)

-- at the end
pub closing_fits : (b : Block) → IsBlock b → All IsAsk (block.closing b)
closing_fits b h =
    All-append IsAsk (map Words b.closing) (if b.closes then Close ∷ [] else [])
    (All-map IsAsk Words b.closing h.closing_asks) (last_fits b.closes)
