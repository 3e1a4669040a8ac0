-- The numbers of the program's commands, each once. The most frames of a capture are those of a
-- run on one thread.
use Rattle.std.specs.Prelude.{ℕ}

-- the most bytes of rules or a script, and of a capture
abbrev pub text_limit : ℕ
text_limit = 1048576

abbrev pub capture_limit : ℕ
capture_limit = 67108864

-- the most bytes of a journal that is read
abbrev pub journal_limit : ℕ
journal_limit = 536870912
