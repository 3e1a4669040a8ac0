use Rattle.std.proofs.Common.{arith}
use Rattle.std.specs.Prelude.{map}
use Rattle.turn_lock.specs.Passes.{view_of}
use Rattle.place_turns.proofs.LongerViews.{heard_open}
use Rattle.place_turns.proofs.passes.Passes.hear.Goals as goal

pub returns-clause-timely : goal.returns-clause-timely
returns-clause-timely c port dids heard p at is =
    heard_open c.self.inside.clock c.max-self-inside.result port (map view_of
    c.self.inside.row.items)
    dids heard p (omega (arith, c.max-self-inside.ensures)) (omega (
      arith,
      c.max-self-inside.ensures,
      at,
    ))
    (rw (← c.self.view_is) at is)
