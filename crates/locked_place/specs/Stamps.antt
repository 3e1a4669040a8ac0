-- What is known of times that were stamped.
use Rattle.std.specs.Prelude.{ℕ, [], ◌∷◌, ◌++◌}
use Rattle.locked_place.specs.declared.stamps.Times.{Times}

-- before any
abbrev pub none_yet : Times
none_yet = record { times = [] }

-- one more
abbrev pub stamped : Times → ℕ → Times
stamped v time = record { times = v.times ++ time ∷ [] }
