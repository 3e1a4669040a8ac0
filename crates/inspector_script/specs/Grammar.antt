-- The grammar of a script's file: what stands in it, and the script that it is. It is this
-- project's own. Nothing here reads: the lines of a text say something each, and what they say is a
-- script where it has these parts.
use Rattle.std.specs.Prelude.{◌≡◌, ◌≢◌, ℕ, ◌≤◌, Bool, true, false, List, ◌∷◌, ◌++◌}
use Rattle.std.specs.Prelude.{length, map, flat_map, filter_map, All, AllPairs, Option, Some, None}
use Rattle.std.specs.Prelude.{unwrap_or, option_to_list}
use Rattle.std.specs.List.{AllZip, list_any}
use Rattle.std.specs.Str.Lines.{lines}
use Rattle.text_lines.specs.Refusals as refusals
use Rattle.histories.specs.declared.log.AskWords.{AskWords}
use Rattle.script_lines.specs.declared.answering.OnLine.{OnLine}
use Rattle.script_lines.specs.declared.line.Line.{Line}
use Rattle.script_lines.specs.declared.line.Line.TheVariants.{Nothing, Mail, Pace, Key, Down, Port}
use Rattle.script_lines.specs.declared.line.Line.TheVariants.{Inside}
use Rattle.script_lines.specs.declared.line.BlockLine.{BlockLine}
use Rattle.script_lines.specs.declared.line.BlockLine.TheVariants.{Open, On, End, Close}
use Rattle.script_lines.specs.declared.line.Down as down
use Rattle.script_lines.specs.Grammar.{Says}
use Rattle.inspector_script.specs.declared.block.Block.{Block}
use Rattle.inspector_script.specs.Numbers.{default_key, default_mail, default_pace}
use Rattle.inspector_script.specs.Numbers.{most_downs, most_lines, most_ports}
use Rattle.inspector_script.specs.Scripts.{ScriptValue, held}

-- ---- before the first port

-- a line that may stand there: one that says nothing, or that sets up the run
abbrev pub SetsUp : Line → Type 0
SetsUp Nothing = Unit {0}
SetsUp (Mail mail) = Unit {0}
SetsUp (Pace pace) = Unit {0}
SetsUp (Key key) = Unit {0}
SetsUp (Down down) = Unit {0}
SetsUp (Port port) = ⊥
SetsUp (Inside line) = ⊥

-- what a line says of one thing
abbrev pub mail_in : Line → Option ℕ
mail_in (Mail mail) = Some mail
mail_in _ = None

abbrev pub pace_in : Line → Option ℕ
pace_in (Pace pace) = Some pace
pace_in _ = None

abbrev pub key_in : Line → Option ℕ
key_in (Key key) = Some key
key_in _ = None

abbrev pub down_in : Line → Option down.Down
down_in (Down down) = Some down
down_in _ = None

-- Lines before the first port, in any order. `mail`, `pace` and `hashkey` stand at most once each,
-- and the `down` lines aren't too many.
pub record IsHead (head : List Line) (mail pace key : Option ℕ) (downs : List down.Down)
    : Type 0 where
  pub set_up : All SetsUp head
  pub mail_once : filter_map mail_in head ≡ option_to_list mail
  pub pace_once : filter_map pace_in head ≡ option_to_list pace
  pub key_once : filter_map key_in head ≡ option_to_list key
  pub downs_are : filter_map down_in head ≡ downs
  pub few_downs : length downs ≤ most_downs

-- ---- a port's block

-- a port, and the lines behind its `port` line
pub record Part : Type 0 where
  pub port : ℕ
  pub inside : List Line

abbrev pub lines_of : Part → List Line
lines_of part = Port part.port ∷ part.inside

-- a line that may stand in a block: one that says nothing, or one of the block's own
abbrev pub IsInside : Line → Type 0
IsInside Nothing = Unit {0}
IsInside (Mail mail) = ⊥
IsInside (Pace pace) = ⊥
IsInside (Key key) = ⊥
IsInside (Down down) = ⊥
IsInside (Port port) = ⊥
IsInside (Inside line) = Unit {0}

-- what a line says inside a block
abbrev pub own : Line → Option BlockLine
own (Inside line) = Some line
own _ = None

abbrev pub open_in : BlockLine → Option AskWords
open_in (Open words) = Some words
open_in _ = None

abbrev pub on_in : BlockLine → Option OnLine
on_in (On line) = Some line
on_in _ = None

abbrev pub end_in : BlockLine → Option AskWords
end_in (End words) = Some words
end_in _ = None

abbrev pub is_close : BlockLine → Bool
is_close Close = true
is_close _ = false

-- an `end` line, `end close` among them
abbrev pub is_end : BlockLine → Bool
is_end (End words) = true
is_end Close = true
is_end _ = false

-- the block of these lines: of each kind all, in their order
abbrev pub block_of : List BlockLine → Block
block_of ls =
    record {
      opening = filter_map open_in ls;
      lines = filter_map on_in ls;
      closing = filter_map end_in ls;
      closes = list_any is_close ls;
    }

-- the lines of a block that say something
abbrev pub owns : Part → List BlockLine
owns part = filter_map own part.inside

-- they aren't too many, and no `end` line stands behind `end close`
pub record IsPart (part : Part) : Type 0 where
  pub inside : All IsInside part.inside
  pub few_lines : length (owns part) ≤ most_lines
  pub ended_once : AllPairs (λ a b. is_close a ≡ true → is_end b ≡ false) (owns part)

-- ---- the whole file

abbrev pub ports_of : List Part → List ℕ
ports_of parts = map (λ (part : Part). part.port) parts

abbrev pub blocks_of : List Part → List Block
blocks_of parts = map (λ part. block_of (owns part)) parts

-- Lines that say a script: a head, and behind it a block or more, not too many, each of another
-- port.
pub record SayScript (said : List Line) (s : ScriptValue) : Type 0 where
  pub head : List Line
  pub parts : List Part
  pub mail : Option ℕ
  pub pace : Option ℕ
  pub key : Option ℕ
  pub said_is : said ≡ head ++ flat_map lines_of parts
  pub head_is : IsHead head mail pace key s.downs
  pub parts_are : All IsPart parts
  pub some_port : 1 ≤ length parts
  pub few_ports : length parts ≤ most_ports
  pub ports_differ : AllPairs (λ a b. a ≢ b) (ports_of parts)
  pub script_is : s ≡ held (unwrap_or mail default_mail) (unwrap_or pace default_pace)
      (unwrap_or key default_key) s.downs (ports_of parts) (blocks_of parts)

-- the lines of a script's file: each says something, and together a script
abbrev pub AreScriptLines : List (List ℕ) → ScriptValue → Type 0
AreScriptLines text_lines s = (said : List Line) × AllZip Says text_lines said × SayScript said s

-- A script's file. Lines are ended by LF, which may be missing at the end; one CR before LF is
-- dropped.
abbrev pub IsScriptFile : List ℕ → ScriptValue → Type 0
IsScriptFile text s = AreScriptLines (lines text) s

-- ---- files that aren't

-- The number of the first line that is refused: the lines before it begin a script's file, and with
-- it they don't. Or the number of the one that is missing after the last, where the text ends
-- without a port.
abbrev pub IsFirstRefused : List ℕ → ℕ → Type 0
IsFirstRefused text line_number = refusals.IsFirstRefused AreScriptLines text line_number
