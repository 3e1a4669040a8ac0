-- The numbers of a port's messages.
use Rattle.std.specs.Prelude.{ℕ}

-- the numbers of a port's messages count on modulo this one: they are of 32 bits
abbrev pub call_count : ℕ
call_count = 4294967296
