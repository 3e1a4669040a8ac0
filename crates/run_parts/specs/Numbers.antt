-- The numbers of what enters, each once.
use Rattle.std.specs.Prelude.{ℕ}

-- how many nanoseconds a microsecond has
abbrev pub nanos_in_a_micro : ℕ
nanos_in_a_micro = 1000
