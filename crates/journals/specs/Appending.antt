-- Bytes that are appended.
use Rattle.std.specs.Prelude.{◌≡◌, ◌+◌, ◌≤◌, ◌++◌, ℕ, List, length, Result, OnOk, IsOk, Vec}
use Rattle.std.specs.Prelude.{vec_len}
use Rattle.std.specs.Prelude.{vec_capacity}
use Rattle.std.specs.declared.alloc.Global.{Global}

-- These bytes were appended, and no memory was missing where there was room for them. Room is never
-- lost.
pub record Appends {T E : Type 0} (result : Result T E) (old new : Vec ℕ Global) (text : List ℕ) :
    Type 0 where
  pub ok : OnOk result (new.items ≡ old.items ++ text)
  pub len : OnOk result (vec_len new ≡ vec_len old + length text)
  pub room : vec_len old + length text ≤ vec_capacity old → IsOk result
  pub capacity : vec_capacity old ≤ vec_capacity new
