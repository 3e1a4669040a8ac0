use Rattle.std.proofs.Common.{arith}
use Rattle.turn_lock.specs.Passes.{view_of, state_of}
use Rattle.locked_place.proofs.TurnTimes.{Taken, list_begins, taken, went_down, looks_where}
use Rattle.locked_place.proofs.turns.device_down.Goals as goal

pub leave-requires-clause-begins : goal.leave-requires-clause-begins
leave-requires-clause-begins g c =
    list_begins c.state-place.result.now c.begin_turn.new.self c.device_down-destroyed.new.self
    c.args.clock.now c.begin_turn.result c.begin_turn.ensures.in_time c.begin_turn.ensures.now
    c.device_down-destroyed.ensures.stamped (state_of c.enter-held.result) _
    c.state-place.ensures.value c.enter-held.ensures.entered

turn : (g : _) (c : goal.After-leave g) →
    Taken c.args.clock.now c.begin_turn.result (view_of c.args.pass.now)
    (view_of c.leave.new.pass) c.begin_turn.new.self.entries c.device_down-destroyed.new.self.entries
turn g c =
    taken (view_of c.args.pass.now) (view_of c.enter-held.new.pass) (view_of c.leave.new.pass)
    (state_of c.enter-held.result) c.state-place.result.now c.begin_turn.new.self
    c.device_down-destroyed.new.self c.args.clock.now c.begin_turn.result
    c.state-place.ensures.value c.begin_turn.ensures.in_time c.begin_turn.ensures.later
    c.begin_turn.ensures.now c.device_down-destroyed.ensures.stamped c.enter-held.ensures.begins
    c.enter-held.ensures.inside c.leave.ensures.left

pub returns-clause-turn : goal.returns-clause-turn
returns-clause-turn g c =
    went_down (turn g c) c.device_down-destroyed.ensures.legal c.args.device
    c.device_down-destroyed.result c.device_down-destroyed.ensures.entries c.device_down-destroyed.ensures.count

pub returns-clause-short : goal.returns-clause-short
returns-clause-short g c =
    let long = (turn g c).as_long in
    omega (arith, long, c.device_down-destroyed.ensures.short)

pub returns-clause-err : goal.returns-clause-err
returns-clause-err g c =
    looks_where (turn g c) c.device_down-destroyed.ensures.legal
    c.device_down-destroyed.result c.device_down-destroyed.ensures.err
