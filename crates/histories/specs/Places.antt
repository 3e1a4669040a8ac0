-- Where a queue is, if there are several places.
use Rattle.std.specs.Prelude.{ℕ, ◌%◌}

-- the place at which a queue is, of so many places
abbrev pub place_for : ℕ → ℕ → ℕ
place_for queue places = queue % places
