use Rattle.plane.proofs.PlaneEnd.{OrderedSo}
use Rattle.plane.proofs.finish.in_order.Given as goal

abbrev pub invariant-loop-port : goal.invariant-loop-port
invariant-loop-port l =
    OrderedSo l.port-index l.order l.fn.logs.items l.logs.items l.ordered.items
