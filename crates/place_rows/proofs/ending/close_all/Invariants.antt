use Rattle.std.proofs.Common.{◌≡◌, length}
use mathlib.Core.List.{IsPrefix}
use Rattle.place_rows.proofs.ending.close_all.Given as goal

abbrev pub invariant-loop-lock : goal.invariant-loop-lock
invariant-loop-lock l = record {
  locks : IsPrefix l.locks.items l.fn.locks.items;
  row : IsPrefix l.row.items l.fn.row.items;
  as_many : length l.locks.items ≡ length l.row.items;
}

abbrev pub decreases-loop-lock : goal.decreases-loop-lock
decreases-loop-lock l = length l.locks.items
