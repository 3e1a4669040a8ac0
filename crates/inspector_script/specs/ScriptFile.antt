-- A script's file: which lines may follow which, the script that they make, and the first line that
-- may not.
use Rattle.std.specs.Prelude.{◌≡◌, ◌≢◌, ℕ, ◌+◌, ◌≤◌, ◌&&◌, ◌==◌, not, nat_lt, is_none, Bool, false}
use Rattle.std.specs.Prelude.{true, List, [], ◌∷◌, ◌++◌, length, All, AllPairs, Option, Some, None}
use Rattle.std.specs.Prelude.{IfSome, unwrap_or, option_to_list, Result, Ok, Err, ⊤}
use Rattle.std.specs.Prelude.{if◌then◌else◌}
use Rattle.std.specs.List.{list_any}
use Rattle.std.specs.Option.{option_map_or}
use Rattle.std.specs.Str.Lines.{lines}
use Rattle.text_lines.specs.Words.{◌>>=◌}
use Rattle.text_lines.specs.declared.fault.LineFault.{LineFault}
use Rattle.text_lines.specs.declared.fault.LineFault.TheVariants.{Bad}
use Rattle.text_lines.specs.declared.fault.LineFault.TheVariants as fault
use Rattle.inspector_script.specs.declared.block.Block.{Block}
use Rattle.script_lines.specs.declared.line.Line.{Line}
use Rattle.script_lines.specs.declared.line.Line.TheVariants.{Nothing, Mail, Pace, Key, Down}
use Rattle.script_lines.specs.declared.line.Line.TheVariants.{Port, Inside}
use Rattle.script_lines.specs.declared.line.BlockLine.{BlockLine}
use Rattle.script_lines.specs.declared.line.BlockLine.TheVariants.{Open, On, End, Close}
use Rattle.inspector_script.specs.declared.reading.Reader.{Reader}
use Rattle.script_lines.specs.declared.line.Down as down
use Rattle.script_lines.specs.Line.{says}
use Rattle.script_lines.specs.Numbers.{largest_mail}
use Rattle.inspector_script.specs.Numbers.{default_key, default_mail, default_pace}
use Rattle.inspector_script.specs.Numbers.{most_downs, most_lines, most_ports}
use Rattle.inspector_script.specs.Scripts.{IsBlock, ScriptValue, held, line_count}

-- ---- one block

-- a block without lines
abbrev pub without_lines : Block
without_lines = record { opening = []; lines = []; closing = []; closes = false }

-- one more line may stand in the block
abbrev pub has_room : Block → Bool
has_room b = nat_lt (line_count b) most_lines

-- one more `end` line may stand in it
abbrev pub may_end : Block → Bool
may_end b = has_room b && not b.closes

-- the block after a line that says this; none where it may not stand here
unfoldable pub block_after : Block → BlockLine → Option Block
block_after b (Open words) =
    if has_room b then Some (record b { opening = b.opening ++ words ∷ [] }) else None
block_after b (On on) = if has_room b then Some (record b { lines = b.lines ++ on ∷ [] }) else None
block_after b (End words) =
    if may_end b then Some (record b { closing = b.closing ++ words ∷ [] }) else None
block_after b Close = if may_end b then Some (record b { closes = true }) else None

-- ---- the whole file

-- Where a reader stands: what the lines before the blocks said, the ports, the blocks before the
-- last one, and the last one, which is the last port's.
pub record Place : Type 0 where
  pub mail : Option ℕ
  pub pace : Option ℕ
  pub key : Option ℕ
  pub downs : List down.Down
  pub ports : List ℕ
  pub blocks : List Block
  pub last : Option Block

-- at the beginning of a file
abbrev pub start : Place
start =
    record {
      mail = None;
      pace = None;
      key = None;
      downs = [];
      ports = [];
      blocks = [];
      last = None;
    }

abbrev pub place_of : Reader → Place
place_of r =
    record {
      mail = r.mail;
      pace = r.pace;
      key = r.key;
      downs = r.downs;
      ports = r.ports.items;
      blocks = r.blocks.items;
      last = r.last;
    }

abbrev pub is_port : ℕ → ℕ → Bool
is_port port known = known == port

-- a block may begin for a new port, if they aren't too many
abbrev pub may_begin : Place → ℕ → Bool
may_begin p port = nat_lt (length p.ports) most_ports && not (list_any (is_port port) p.ports)

-- the last block is put behind those before it
abbrev pub shut : Place → Place
shut p = record p { blocks = p.blocks ++ option_to_list p.last; last = None }

-- the place after a line of the last block
abbrev pub inside : Place → BlockLine → Option Place
inside p l = do
  b ← p.last
  c ← block_after b l
  Some (record p { last = Some c })

-- The place after a line that says this; none where it may not stand here. What sets up the run
-- stands before the first port, the first three at most once.
unfoldable pub after : Place → Line → Option Place
after p Nothing = Some p
after p (Mail mail) =
    if is_none p.last && is_none p.mail then Some (record p { mail = Some mail }) else None
after p (Pace pace) =
    if is_none p.last && is_none p.pace then Some (record p { pace = Some pace }) else None
after p (Key key) =
    if is_none p.last && is_none p.key then Some (record p { key = Some key }) else None
after p (Down down) =
    if is_none p.last && nat_lt (length p.downs) most_downs
    then Some (record p { downs = p.downs ++ down ∷ [] }) else None
after p (Port port) =
    if may_begin p port
    then Some (record (shut p) { ports = p.ports ++ port ∷ []; last = Some without_lines })
    else None
after p (Inside line) = inside p line

-- where a line leads from a place; none where no form allows it here
abbrev pub line_leads_to : Place → List ℕ → Option Place
line_leads_to p line = says line >>= after p

-- the script of the lines so far, of which the last is in this block
abbrev pub script_at : Place → Block → ScriptValue
script_at p b =
    held (unwrap_or p.mail default_mail) (unwrap_or p.pace default_pace)
    (unwrap_or p.key default_key) p.downs p.ports (p.blocks ++ b ∷ [])

-- The script that these lines make from a place on, or the number of the first line that no form
-- allows in its place; `line_number` is the first line's. A file whose lines may all stand, but
-- without a port, is refused after its last line.
unfoldable pub script_from : ℕ → Place → List (List ℕ) → Result ScriptValue ℕ
script_from line_number p [] =
    option_map_or (λ b. Ok (script_at p b)) p.last (Err line_number)
script_from line_number p (line ∷ rest) =
    option_map_or (λ q. script_from (line_number + 1) q rest) (line_leads_to p line)
    (Err line_number)

-- The script of a text, or its first line that is refused. Lines are ended by LF, which may be
-- missing at the end; one CR before LF is dropped.
unfoldable pub script_of : List ℕ → Result ScriptValue ℕ
script_of text = script_from 1 start (lines text)

-- ---- what the calls of a reader answer

-- what a reader answers, unless memory runs out
abbrev pub Answers : Result ScriptValue LineFault → Result ScriptValue ℕ → Type 0
Answers (Ok script) read = read ≡ Ok script
Answers (Err (Bad line)) read = read ≡ Err line
Answers (Err fault.NoMemory) read = ⊤

-- how many last blocks there are
abbrev pub last_count : Option Block → ℕ
last_count None = 0
last_count (Some b) = 1

-- the bounds that a reader keeps
pub record IsSound (p : Place) : Type 0 where
  pub mail : IfSome p.mail (λ mail. (1 ≤ mail) × (mail ≤ largest_mail))
  pub downs : length p.downs ≤ most_downs
  pub ports : length p.ports ≤ most_ports
  pub port_numbers : All (λ port. 1 ≤ port) p.ports
  pub ports_differ : AllPairs (λ a b. a ≢ b) p.ports
  pub blocks : length p.blocks + last_count p.last ≡ length p.ports
  pub each : All IsBlock p.blocks
  pub last : IfSome p.last IsBlock
