-- The numbers of a pool, each once. They are this project's own.
use Rattle.std.specs.Prelude.{ℕ}

-- how many workers a pool has
abbrev pub least_workers : ℕ
least_workers = 2

abbrev pub most_workers : ℕ
most_workers = 16

-- the most notices that a pool answers at a time
abbrev pub most_notices : ℕ
most_notices = 64
