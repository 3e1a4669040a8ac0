-- A list, and the room that it has.
use Rattle.std.specs.Prelude.{ℕ, List}

pub record ListWithRoom (T : Type 0) : Type 0 where
  pub items : List T
  -- how many items more are taken without memory
  pub room : ℕ
