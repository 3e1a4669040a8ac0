-- What a `Sequence` ends as, where a `&mut` to one of its items is returned.
use Rattle.std.specs.Prelude.{ℕ, List, Option, slice_set}
use Rattle.std.specs.Borrow.{LendsIf, Fml, RattleType, MutBor}
use Rattle.packet_entry.specs.contracts.sequence.Sequence.{the_row}

module _ (T : RattleType) (s : MutBor (List T.Denot)) where
  -- once the borrow r ends, the place has the last value written through r; at `None` all is as
  -- before
  abbrev pub lends_item : ℕ → Option (MutBor T.Denot) → Fml
  lends_item at r = LendsIf (the_row T) T s r (slice_set s.now at) s.now
