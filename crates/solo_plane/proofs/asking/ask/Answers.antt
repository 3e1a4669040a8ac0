use Rattle.std.proofs.Common.{arith}
use Rattle.histories.specs.States.{state_of}
use Rattle.histories.specs.Happenings.{queue_of}
use Rattle.solo_plane.proofs.asking.ask.Goals as goal

pub hand_on-requires-clause-room : goal.hand_on-requires-clause-room
hand_on-requires-clause-room c =
    let handed = rw c.requires.none_handed at c.in_ok-errno.ensures.handed in
    rw handed
    (omega (
      arith,
      c.most_handed-most.ensures c.args.port c.args.call,
      c.in_ok-make_room.ensures.ok,
    ))

pub hand_on-requires-clause-in_time : goal.hand_on-requires-clause-in_time
hand_on-requires-clause-in_time c =
    let q = state_of c.args.held.now.place.entries (queue_of c.args.request) in
    let handed = rw c.requires.none_handed at c.in_ok-errno.ensures.handed in
    rw handed
    (c.what_goes_on_is_in_time.ensures.request q c.args.port c.args.call c.args.request
    (c.requires.in_time (queue_of c.args.request)))
