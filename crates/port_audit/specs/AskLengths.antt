-- For proofs alone: what a script asks for isn't too long.
use Rattle.std.proofs.Common.{ℕ, zero, suc, Bool, true, false, cond, List, [], ◌∷◌, ◌++◌, Option}
use Rattle.std.proofs.Common.{Some, None}
use Rattle.std.specs.Prelude.{map, find, slice_get}
use Rattle.std.specs.List.{AllByRecursion}
use Rattle.std.specs.Option.{option_map_or}
use Rattle.std.proofs.lemmas.List.Elements.{recursion_from_All}
use Rattle.nfqa_msgs.specs.NoticeMeaning.{notice_of}
use Rattle.nfqa_msgs.specs.NoticeWriting.{Told}
use Rattle.nfqa_msgs.specs.declared.notice.Notice.{Notice}
use Rattle.histories.specs.declared.log.AskWords.{AskWords}
use Rattle.script_lines.specs.Answering.{asks_of, holds_all}
use Rattle.script_lines.specs.Asking.{asked}
use Rattle.script_lines.specs.Limits.{IsAsk, IsOnLine, IsTemplate, IsWords}
use Rattle.script_lines.specs.declared.answering.OnLine.{OnLine}
use Rattle.script_lines.specs.declared.ask.Ask.{Ask}
use Rattle.script_lines.specs.declared.ask.Ask.TheVariants.{Words, Close}
use Rattle.script_lines.specs.declared.template.Template.{Template}
use Rattle.script_lines.specs.declared.template.Template.TheVariants.{Config, Verdict, Batch, Raw}
use Rattle.inspector_script.specs.Blocks as block
use Rattle.inspector_script.specs.Scripts.{IsBlock, IsScript, ScriptValue, closing, opening}
use Rattle.inspector_script.specs.declared.block.Block.{Block}
use Rattle.run_parts.specs.Log.{asks_for}

abbrev pub AllAsks : List Ask → Type 0
AllAsks asks = AllByRecursion IsAsk asks

either : {X : Type 0} (P : X → Type 0) (b : Bool) (s t : X) → P s → P t → P (cond b s t)
either P true s t h k = h
either P false s t h k = k

answer_asks : (n : Notice) (ts : List Template) → AllByRecursion IsTemplate ts →
    AllAsks (map (asked n) ts)
answer_asks n [] each = tt
answer_asks n (t ∷ ts) each = (by t each.0, answer_asks n ts each.1)
  where
    by : (t : Template) → IsTemplate t → IsAsk (asked n t)
    by (Config queue settings) is = tt
    by (Verdict j payload) is = is
    by (Batch j) is = tt
    by (Raw bytes) is = is

line_asks : (received : ℕ) (n : Notice) (ls : List OnLine) → AllByRecursion IsOnLine ls →
    AllAsks (block.answer_by received n ls)
line_asks received n [] each = tt
line_asks received n (l ∷ ls) each =
    either (λ (o : Option OnLine). AllAsks (option_map_or (asks_of n) o []))
    (holds_all received n l) (Some l) (find (holds_all received n) ls)
    (answer_asks n l.asks (recursion_from_All IsTemplate l.asks each.0.each))
    (line_asks received n ls each.1)

words_asks : (all : List AskWords) → AllByRecursion IsWords all → AllAsks (map Words all)
words_asks [] each = tt
words_asks (w ∷ ws) each = (each.0, words_asks ws each.1)

and_asks : (one two : List Ask) → AllAsks one → AllAsks two → AllAsks (one ++ two)
and_asks [] two for_one for_two = for_two
and_asks (a ∷ more) two for_one for_two = (for_one.0, and_asks more two for_one.1 for_two)

at_block : (bs : List Block) (place : ℕ) (asks : Block → List Ask) →
    AllByRecursion IsBlock bs → ((b : Block) → IsBlock b → AllAsks (asks b)) →
    AllAsks (option_map_or asks (slice_get bs place) [])
at_block [] place asks all each = tt
at_block (b ∷ bs) zero asks all each = each b all.0
at_block (b ∷ bs) (suc place) asks all each = at_block bs place asks all.1 each

module _ (script : ScriptValue) (is : IsScript script) where
  all_blocks : AllByRecursion IsBlock script.blocks
  all_blocks = recursion_from_All IsBlock script.blocks is.each

  pub opening_asks : (place : ℕ) → AllAsks (opening script place)
  opening_asks place = at_block script.blocks place block.opening all_blocks
      (λ b is. words_asks b.opening (recursion_from_All IsWords b.opening is.opening_asks))

  pub closing_asks : (place : ℕ) → AllAsks (closing script place)
  closing_asks place = at_block script.blocks place block.closing all_blocks
      (λ b is. and_asks (map Words b.closing) _
      (words_asks b.closing (recursion_from_All IsWords b.closing is.closing_asks)) (by b.closes))
    where
      by : (c : Bool) → AllAsks (cond c (Close ∷ []) [])
      by true = (tt, tt)
      by false = tt

  pub answer_good : (place received : ℕ) (told : Option Told) →
      AllAsks (asks_for script place received told)
  answer_good place received None = tt
  answer_good place received (Some told) =
      at_block script.blocks place (block.answer received (notice_of told)) all_blocks
      (λ b is. line_asks received (notice_of told) b.lines
      (recursion_from_All IsOnLine b.lines is.on_lines))
