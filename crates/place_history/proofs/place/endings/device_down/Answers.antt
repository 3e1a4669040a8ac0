use Rattle.std.proofs.Common.{◌<◌, ap, ◌∙◌, arith, length, length-append}
use Rattle.std.specs.BTreeMap.{btree_map_len}
use Rattle.histories.specs.Numbers.{queue_count}
use Rattle.histories.specs.States.{state_of}
use Rattle.histories.specs.Happenings.{down_of}
use Rattle.place_history.proofs.QueueSweep.{next_swept, all_swept, down_length}
use Rattle.place_history.proofs.QueueSweep.{room_to_go, room_at_end}
use Rattle.place_history.proofs.place.endings.device_down.Goals as goal

pub loop-number-preserved : goal.loop-number-preserved
loop-number-preserved c =
    let number : c.in-Some.number < queue_count = search in
    record {
      replayed = c.down_at.ensures.replayed;
      no_offer = c.down_at.ensures.no_offer;
      as_many = c.down_at.ensures.as_many ∙ c.loop-number.invariant.as_many;
      room = omega (
        arith,
        c.loop-number.invariant.room,
        c.down_at.ensures.room,
        ap length c.down_at.ensures.entries,
        length-append c.loop-number.held.entries.items
            (down_of c.args.device c.in-Some.number
            (state_of c.loop-number.held.entries.items c.in-Some.number)),
        down_length c.args.device c.in-Some.number
            (state_of c.loop-number.held.entries.items c.in-Some.number)
            c.in-Some.ensures.found.1,
      );
      sweeps = next_swept (down_of c.args.device) c.args.held.now.entries.items
          c.loop-number.held.entries.items c.down_at.new.held.entries.items c.loop-number.from
          c.in-Some.number c.loop-number.taken _ (c.ports_and_devices_reach_bound_queues.ensures.devices c.args.device)
          c.loop-number.invariant.sweeps c.in-Some.ensures.found.0 number c.in-Some.ensures.first
          c.down_at.ensures.entries
          (omega (arith, c.saturating_add-taken.ensures, c.down_at.ensures.taken));
    }

pub returns-clause-entries : goal.returns-clause-entries
returns-clause-entries c =
    (all_swept (down_of c.args.device) c.args.held.now.entries.items
    c.loop-number.held.entries.items c.loop-number.from c.loop-number.taken
    (c.ports_and_devices_reach_bound_queues.ensures.devices c.args.device) c.loop-number.invariant.sweeps c.in_default.ensures.none).0

pub returns-clause-taken : goal.returns-clause-taken
returns-clause-taken c =
    (all_swept (down_of c.args.device) c.args.held.now.entries.items
    c.loop-number.held.entries.items c.loop-number.from c.loop-number.taken
    (c.ports_and_devices_reach_bound_queues.ensures.devices c.args.device) c.loop-number.invariant.sweeps c.in_default.ensures.none).1

pub down_at-requires-clause-room : goal.down_at-requires-clause-room
down_at-requires-clause-room c =
    let number : c.in-Some.number < queue_count = search in
    let enough = rw c.requires.no_offer at c.requires.room in
    room_to_go c.args.device c.args.held.now.entries.items c.loop-number.held.entries.items
    c.loop-number.from c.in-Some.number c.loop-number.taken
    (btree_map_len c.args.held.now.queues) c.args.held.now.entries.room
    c.loop-number.held.entries.room c.loop-number.invariant.sweeps c.in-Some.ensures.found.0
    number c.in-Some.ensures.found.1 c.requires.replayed.bound (omega (arith, enough))
    c.loop-number.invariant.room

pub returns-clause-room : goal.returns-clause-room
returns-clause-room c =
    let enough = rw c.requires.no_offer at c.requires.room in
    let fits = room_at_end c.args.device c.args.held.now.entries.items
    c.loop-number.held.entries.items c.loop-number.from c.loop-number.taken
    (btree_map_len c.args.held.now.queues) c.args.held.now.entries.room
    c.loop-number.held.entries.room c.loop-number.invariant.sweeps c.requires.replayed.bound
    (omega (arith, enough)) c.loop-number.invariant.room in
    rw (c.loop-number.invariant.no_offer, c.loop-number.invariant.as_many) (omega (arith, fits))
