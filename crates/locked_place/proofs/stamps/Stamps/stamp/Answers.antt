use Rattle.std.proofs.Common.{refl, arith}
use Rattle.atomic_table.specs.Table.{keeps}
use Rattle.locked_place.specs.Stamps.{stamped}
use Rattle.locked_place.proofs.stamps.Stamps.stamp.Goals as goal

pub store-requires : goal.store-requires
store-requires c =
    let i = c.self.invariant in (
      i.0,
      (let w = i.1 in omega (arith, w)),
      (λ s holds len at small. (stamped c.self.inside.seat.me.0 c.args.time, keeps, tt, tt, refl)),
    )
