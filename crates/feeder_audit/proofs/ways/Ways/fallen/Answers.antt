use Rattle.std.proofs.Common.{sym, subst}
use Rattle.feeder_audit.specs.Rows.{row_of, IsFallen}
use Rattle.feeder_audit.specs.declared.ways.Ways.{Ways}
use Rattle.feeder_audit.specs.declared.ways.Ways.TheVariants.{Nowhere}
use Rattle.feeder_audit.proofs.DeviceRows.{nowhere_falls}
use Rattle.feeder_audit.proofs.ways.Ways.fallen.Goals as goal

pub returns-in-Nowhere : goal.returns-in-Nowhere
returns-in-Nowhere c =
    subst (λ (w : Ways). IsFallen c.args.device c.args.left.now (row_of w) Nowhere)
    (sym c.in-Nowhere.is) (nowhere_falls c.args.device c.args.left.now)
