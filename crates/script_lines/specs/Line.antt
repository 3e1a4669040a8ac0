-- What one line of a script says.
use Rattle.std.specs.Prelude.{ℕ, ◌&&◌, nat_le, false, List, [], ◌∷◌, length, Option, Some}
use Rattle.std.specs.Prelude.{None, option_map, bytes_eq, codes, if◌then◌else◌}
use Rattle.std.specs.List.{list_all, slice_split}
use Rattle.std.specs.Option.{option_map_or}
use Rattle.text_lines.specs.Words.{◌>>=◌, first_word, first_said, words_after, words_of}
use Rattle.text_lines.specs.Words.{cut_at_word, is_printable}
use Rattle.text_lines.specs.Digits.{decimal}
use Rattle.histories.specs.declared.log.AskWords.{AskWords}
use Rattle.script_lines.specs.declared.answering.OnLine.{OnLine}
use Rattle.script_lines.specs.declared.condition.Condition.{Condition}
use Rattle.script_lines.specs.declared.template.Template.{Template}
use Rattle.script_lines.specs.declared.line.Down.{Down}
use Rattle.script_lines.specs.declared.line.Line.{Line}
use Rattle.script_lines.specs.declared.line.Line.TheVariants as line
use Rattle.script_lines.specs.declared.line.BlockLine.{BlockLine}
use Rattle.script_lines.specs.declared.line.BlockLine.TheVariants.{Open, On, End, Close}
use Rattle.script_lines.specs.Numbers.{largest_mail, most_asks}
use Rattle.script_lines.specs.Asking.{words_alone}
use Rattle.script_lines.specs.AskLine.{ask_of, only_word}
use Rattle.script_lines.specs.ConditionLine.{condition_of}

-- an ask that doesn't say `this`
unfoldable pub without_notice : List (List ℕ) → Option AskWords
without_notice ws = ask_of ws >>= words_alone

-- ---- the parts of an `on` line

-- the words, cut into parts wherever this word stands
abbrev pub parts_at : List ℕ → List (List ℕ) → List (List (List ℕ))
parts_at word ws = slice_split (λ w. bytes_eq w word) ws

-- what all of these parts are; none where one of them isn't
abbrev pub all_of : {A : Type 0} → (List (List ℕ) → Option A) → List (List (List ℕ)) →
    Option (List A)
all_of read [] = Some []
all_of read (part ∷ parts) = do
  x ← read part
  xs ← all_of read parts
  Some (x ∷ xs)

-- `CONDITION [and CONDITION]..`
abbrev pub conditions_of : List (List ℕ) → Option (List Condition)
conditions_of ws = all_of condition_of (parts_at (codes "and") ws)

-- `ASK [; ASK]..`
abbrev pub asks_in : List (List ℕ) → Option (List Template)
asks_in ws = all_of ask_of (parts_at (codes ";") ws)

-- `CONDITION [and CONDITION].. do ASK [; ASK]..`, with not too many asks
unfoldable pub on_of : List (List ℕ) → Option OnLine
on_of ws = do
  parts ← cut_at_word (codes "do") ws
  conditions ← conditions_of parts.0
  asks ← asks_in parts.1
  if nat_le (length asks) most_asks
      then Some (record { conditions = conditions; asks = asks }) else None

-- ---- lines

-- a number alone
abbrev pub number_of : List (List ℕ) → Option ℕ
number_of ws = only_word ws >>= decimal

-- `DEVICE after N`
unfoldable pub down_of : List (List ℕ) → Option Down
down_of ws = do
  first ← first_word ws
  device ← decimal first.0
  rest ← words_after (codes "after") first.1
  after ← number_of rest
  Some (record { device = device; after = after })

-- a line that stands before the blocks, or the first of a block
unfoldable pub set_up : List ℕ → List (List ℕ) → Option Line
set_up word ws =
    if bytes_eq word (codes "mail") then (do
      mail ← number_of ws
      if nat_le 1 mail && nat_le mail largest_mail then Some (line.Mail mail) else None)
    else if bytes_eq word (codes "pace") then option_map line.Pace (number_of ws)
    else if bytes_eq word (codes "hashkey") then option_map line.Key (number_of ws)
    else if bytes_eq word (codes "down") then option_map line.Down (down_of ws)
    else if bytes_eq word (codes "port") then (do
      port ← number_of ws
      if nat_le 1 port then Some (line.Port port) else None)
    else None

-- `close` alone, or an ask that doesn't say `this`
unfoldable pub end_of : List (List ℕ) → Option BlockLine
end_of ws =
    if option_map_or (λ word. bytes_eq word (codes "close")) (only_word ws) false
    then Some Close
    else option_map End (without_notice ws)

-- a line inside a block
unfoldable pub of_block : List ℕ → List (List ℕ) → Option BlockLine
of_block word ws =
    if bytes_eq word (codes "open") then option_map Open (without_notice ws)
    else if bytes_eq word (codes "on") then option_map On (on_of ws)
    else if bytes_eq word (codes "end") then end_of ws
    else None

-- a line by its first word, and the words after it
unfoldable pub says_by : List ℕ → List (List ℕ) → Option Line
says_by word ws = option_map_or (λ l. Some l) (set_up word ws)
    (option_map line.Inside (of_block word ws))

-- what a line says; none where no form allows it
unfoldable pub says : List ℕ → Option Line
says text =
    if list_all is_printable text
    then option_map_or (λ w. says_by w.0 w.1) (first_said (words_of text)) (Some line.Nothing)
    else None
