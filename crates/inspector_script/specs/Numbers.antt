-- The numbers of whole scripts, each once. They are this project's own limits and defaults; those
-- of single lines are script_lines', and the last value of a count is queue_core's.
use Rattle.std.specs.Prelude.{ℕ}
use Rattle.packet_entry.specs.Numbers as shared

-- the most `down` lines
abbrev pub most_downs : ℕ
most_downs = 1000

-- the most ports
abbrev pub most_ports : ℕ
most_ports = shared.most_ports

-- the most lines of a port's block, without its `port` line
abbrev pub most_lines : ℕ
most_lines = 1000

-- how many notices a mailbox holds where no line says it
abbrev pub default_mail : ℕ
default_mail = 1024

-- after how many frames each time the mailboxes are emptied where no line says it
abbrev pub default_pace : ℕ
default_pace = 1

-- the key of the flow hash where no line says it
abbrev pub default_key : ℕ
default_key = 0
