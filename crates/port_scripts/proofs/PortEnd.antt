-- A port is closed at the end alone.
use Rattle.std.proofs.Common.{ℕ, List, [], ◌∷◌, ◌++◌, map, Option}
use Rattle.std.proofs.Common.{Some, None, Bool, true, false, refl}
use Rattle.std.specs.Prelude.{slice_get, if◌then◌else◌}
use Rattle.std.specs.Option.{option_map_or}
use Rattle.nfqa_msgs.specs.declared.notice.Notice.{Notice}
use Rattle.nfqa_msgs.specs.NoticeWriting.{Told}
use Rattle.nfqa_msgs.specs.NoticeMeaning.{notice_of}
use Rattle.histories.specs.declared.log.AskWords.{AskWords}
use Rattle.histories.specs.declared.log.Did.{Did}
use Rattle.script_lines.specs.declared.ask.Ask.TheVariants.{Words, Close}
use Rattle.script_lines.specs.declared.answering.OnLine.{OnLine}
use Rattle.script_lines.specs.declared.template.Template.{Template}
use Rattle.script_lines.specs.declared.template.Template.TheVariants.{Config, Verdict, Batch, Raw}
use Rattle.script_lines.specs.Asking.{asked}
use Rattle.script_lines.specs.Answering.{asks_of}
use Rattle.inspector_script.specs.Scripts.{ScriptValue, opening, answer, closing}
use Rattle.inspector_script.specs.Blocks as block
use Rattle.inspector_script.specs.declared.block.Block.{Block}
use Rattle.run_parts.specs.Log.{answer_to, received_count}
use Rattle.port_scripts.specs.Words.{AreWords, ClosesLast}

all_words : (ws : List AskWords) → AreWords (map Words ws)
all_words [] = tt
all_words (w ∷ ws) = all_words ws

then_closed : (ws : List AskWords) (closes : Bool) →
    ClosesLast (map Words ws ++ (if closes then Close ∷ [] else []))
then_closed [] true = refl
then_closed [] false = tt
then_closed (w ∷ ws) closes = then_closed ws closes

pub opening_words : (script : ScriptValue) (place : ℕ) → AreWords (opening script place)
opening_words script place = of_block (slice_get script.blocks place)
  where
    of_block : (o : Option Block) → AreWords (option_map_or block.opening o [])
    of_block None = tt
    of_block (Some b) = all_words b.opening

pub closing_last : (script : ScriptValue) (place : ℕ) → ClosesLast (closing script place)
closing_last script place = of_block (slice_get script.blocks place)
  where
    of_block : (o : Option Block) → ClosesLast (option_map_or block.closing o [])
    of_block None = tt
    of_block (Some b) = then_closed b.closing b.closes

template_words : (n : Notice) (ts : List Template) → AreWords (map (asked n) ts)
template_words n [] = tt
template_words n (Config queue settings ∷ ts) = template_words n ts
template_words n (Verdict judgement payload ∷ ts) = template_words n ts
template_words n (Batch judgement ∷ ts) = template_words n ts
template_words n (Raw bytes ∷ ts) = template_words n ts

line_words : (n : Notice) (o : Option OnLine) → AreWords (option_map_or (asks_of n) o [])
line_words n None = tt
line_words n (Some line) = template_words n line.asks

answer_words : (script : ScriptValue) (place received : ℕ) (n : Notice) →
    AreWords (answer script place received n)
answer_words script place received n = of_block (slice_get script.blocks place)
  where
    of_block : (o : Option Block) → AreWords (option_map_or (block.answer received n) o [])
    of_block None = tt
    of_block (Some b) = line_words n (block.line_for received n b.lines)

pub answered_words : (script : ScriptValue) (place : ℕ) (dids : List Did) (told : Option Told) →
    AreWords (answer_to script place dids told)
answered_words script place dids None = tt
answered_words script place dids (Some told) =
    answer_words script place (received_count dids) (notice_of told)
