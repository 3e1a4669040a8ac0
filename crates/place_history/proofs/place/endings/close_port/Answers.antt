use Rattle.std.proofs.Common.{◌<◌, arith}
use Rattle.histories.specs.Numbers.{queue_count}
use Rattle.histories.specs.Happenings.{closing_of}
use Rattle.place_history.proofs.QueueSweep.{next_swept, all_swept}
use Rattle.place_history.proofs.place.endings.close_port.Goals as goal

pub loop-number-preserved : goal.loop-number-preserved
loop-number-preserved c =
    let number : c.in-Some.number < queue_count = search in
    record {
      replayed = c.close_at.ensures.replayed;
      no_offer = c.close_at.ensures.no_offer;
      room = c.close_at.ensures.room;
      sweeps = next_swept (closing_of c.args.port) c.args.held.now.entries.items
          c.loop-number.held.entries.items c.close_at.new.held.entries.items c.loop-number.from
          c.in-Some.number c.loop-number.taken _ (c.ports_and_devices_reach_bound_queues.ensures.ports c.args.port)
          c.loop-number.invariant.sweeps c.in-Some.ensures.found.0 number c.in-Some.ensures.first
          c.close_at.ensures.entries
          (omega (arith, c.saturating_add-taken.ensures, c.close_at.ensures.taken));
    }

pub returns-clause-entries : goal.returns-clause-entries
returns-clause-entries c =
    (all_swept (closing_of c.args.port) c.args.held.now.entries.items
    c.loop-number.held.entries.items c.loop-number.from c.loop-number.taken
    (c.ports_and_devices_reach_bound_queues.ensures.ports c.args.port) c.loop-number.invariant.sweeps c.in_default.ensures.none).0

pub returns-clause-taken : goal.returns-clause-taken
returns-clause-taken c =
    (all_swept (closing_of c.args.port) c.args.held.now.entries.items
    c.loop-number.held.entries.items c.loop-number.from c.loop-number.taken
    (c.ports_and_devices_reach_bound_queues.ensures.ports c.args.port) c.loop-number.invariant.sweeps c.in_default.ensures.none).1
