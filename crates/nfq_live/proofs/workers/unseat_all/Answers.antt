use Rattle.std.proofs.Common.{◌∙◌}
use Rattle.std.specs.Vec.Iter.{into_iter_items}
use Rattle.nfq_live.specs.declared.workers.Inspector.{Inspector}
use Rattle.nfq_live.proofs.WorkerSeats.{all_well, mind_left, pass_left, pushed_fits}
use Rattle.nfq_live.proofs.workers.unseat_all.Goals as goal

pub loop-seat-preserved : goal.loop-seat-preserved
loop-seat-preserved c =
    let was = into_iter_items c.loop-seat.seat-iterator in
    let rest = into_iter_items c.next.new.self in
    let seat = c.in-Some.seat in
    let steps = c.in-Some.ensures.steps.0 in
    record {
      room = pushed_fits c.loop-seat.ports.items c.push_reserved.new.self.items seat.pass was rest
          seat c.loop-seat.ports.cap c.push_reserved.new.self.cap c.push_reserved.ensures.items
          steps c.push_reserved.ensures.capacity c.loop-seat.invariant.room;
      more_room = pushed_fits c.loop-seat.minds.items
          c.push_reserved-in-loop-seat.new.self.items seat.mind was rest seat
          c.loop-seat.minds.cap c.push_reserved-in-loop-seat.new.self.cap
          c.push_reserved-in-loop-seat.ensures.items steps
          c.push_reserved-in-loop-seat.ensures.capacity c.loop-seat.invariant.more_room;
      passes = pass_left c.loop-seat.ports.items c.push_reserved.new.self.items was rest seat
          c.push_reserved.ensures.items steps ∙ c.loop-seat.invariant.passes;
      minds = mind_left c.loop-seat.minds.items c.push_reserved-in-loop-seat.new.self.items was
          rest seat c.push_reserved-in-loop-seat.ensures.items steps
          ∙ c.loop-seat.invariant.minds;
      well = all_well (λ (i : Inspector). i.failed) c.loop-seat.well was rest c.args.seats.items
          seat steps c.loop-seat.invariant.well;
    }
