-- A script, and the inspector of one of its ports. Scripts are this project's own.
use Rattle.std.specs.Prelude.{◌≡◌, ◌≢◌, ℕ, ◌+◌, ◌≤◌, min, List, [], length, All, AllPairs}
use Rattle.std.specs.Prelude.{IfSome, None, slice_get, if◌then◌else◌}
use Rattle.std.specs.Option.{option_map_or}
use Rattle.nfqa_msgs.specs.declared.notice.Notice.{Notice}
use Rattle.queue_core.specs.Numbers.{largest_count}
use Rattle.script_lines.specs.declared.ask.Ask.{Ask}
use Rattle.script_lines.specs.declared.line.Down.{Down}
use Rattle.script_lines.specs.Limits.{IsOnLine, IsWords}
use Rattle.script_lines.specs.Numbers.{largest_mail}
use Rattle.inspector_script.specs.declared.block.Block.{Block}
use Rattle.inspector_script.specs.Numbers.{most_downs, most_ports, most_lines}
use Rattle.inspector_script.specs.Blocks as block

-- ---- what a script says

pub record ScriptValue : Type 0 where
  -- how many notices each mailbox holds
  pub mail : ℕ
  -- after how many frames each time the mailboxes are emptied, and after the last; 0 is after the
  -- last alone
  pub pace : ℕ
  -- the key of the flow hash
  pub key : ℕ
  -- the `down` lines, in their order
  pub downs : List Down
  -- the ports, in their order
  pub ports : List ℕ
  -- the block of each port, in the same order
  pub blocks : List Block

-- the script of these parts
abbrev pub held : ℕ → ℕ → ℕ → List Down → List ℕ → List Block → ScriptValue
held mail pace key downs ports blocks = record {
  mail = mail;
  pace = pace;
  key = key;
  downs = downs;
  ports = ports;
  blocks = blocks;
}

-- ---- what each script keeps

-- how many lines a block has
abbrev pub line_count : Block → ℕ
line_count b =
    length b.opening + length b.lines + length b.closing + (if b.closes then 1 else 0)

pub record IsBlock (b : Block) : Type 0 where
  pub lines : line_count b ≤ most_lines
  pub opening_asks : All IsWords b.opening
  pub on_lines : All IsOnLine b.lines
  pub closing_asks : All IsWords b.closing

pub record IsScript (s : ScriptValue) : Type 0 where
  pub least_mail : 1 ≤ s.mail
  pub mail : s.mail ≤ largest_mail
  pub downs : length s.downs ≤ most_downs
  pub some_port : 1 ≤ length s.ports
  pub ports : length s.ports ≤ most_ports
  pub port_numbers : All (λ port. 1 ≤ port) s.ports
  pub ports_differ : AllPairs (λ p q. p ≢ q) s.ports
  pub blocks : length s.blocks ≡ length s.ports
  pub each : All IsBlock s.blocks

-- ---- the inspector of one port

pub record Machine : Type 0 where
  -- which of the script's ports it is, counted from 0
  pub place : ℕ
  -- how many notices it received; it stops at its last value
  pub received : ℕ

-- so many notices more
abbrev pub count_after : ℕ → ℕ → ℕ
count_after received n = min (received + n) largest_count

-- one notice more
abbrev pub next_count : ℕ → ℕ
next_count received = count_after received 1

-- what a block asks for, of the script's port at this place
abbrev pub at_port : ScriptValue → ℕ → (Block → List Ask) → List Ask
at_port s place asks = option_map_or asks (slice_get s.blocks place) []

-- what is asked for when the port opens
abbrev pub opening : ScriptValue → ℕ → List Ask
opening s place = at_port s place block.opening

-- what is asked for in answer to the port's `received`-th notice
abbrev pub answer : ScriptValue → ℕ → ℕ → Notice → List Ask
answer s place received n = at_port s place (block.answer received n)

-- no line of the block answers the port's `received`-th notice
abbrev pub IsUnansweredAs : ScriptValue → ℕ → ℕ → Notice → Type 0
IsUnansweredAs s place received n =
    IfSome (slice_get s.blocks place) (λ b. block.line_for received n b.lines ≡ None)

-- no line of its block answers the inspector's next notice
abbrev pub IsUnanswered : ScriptValue → Machine → Notice → Type 0
IsUnanswered s m n = IsUnansweredAs s m.place (next_count m.received) n

-- what is asked for at the end
abbrev pub closing : ScriptValue → ℕ → List Ask
closing s place = at_port s place block.closing
