-- A queue's tables, test by test.
use Rattle.std.proofs.Common.{Bool, true, false, cond}

-- one test of a table: what holds of its line and of the lines after it holds of the table
pub either : {X : Type 0} (P : X → Type 0) (b : Bool) (s t : X) → P s → P t → P (cond b s t)
either P true s t h k = h
either P false s t h k = k
