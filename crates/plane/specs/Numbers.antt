-- The numbers of a plane, each once.
use Rattle.std.specs.Prelude.{ℕ}

-- how many packets are fed at most by one pass
abbrev pub most_fed : ℕ
most_fed = 16777215
