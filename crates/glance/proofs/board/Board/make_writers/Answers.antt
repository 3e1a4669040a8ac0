use Rattle.std.proofs.Common.{ap, rules}
use Rattle.glance.proofs.StepRule.{makes_writer}
use Rattle.glance.proofs.board.Board.make_writers.Goals as goal

pub split_seat-made-requires : goal.split_seat-made-requires
split_seat-made-requires c =
    let i = c.loop-place.invariant in (
      search rules,
      search rules,
      makes_writer _ _ _ (ap (λ m. m.0.makes) i.2) (ap (λ m. m.0.writes) i.2),
    )
