use Rattle.std.proofs.Common.{arith}
use Rattle.turn_lock.specs.Passes.{view_of, state_of}
use Rattle.locked_place.proofs.TurnTimes.{Taken, list_begins, taken, closed}
use Rattle.locked_place.proofs.turns.close_port.Goals as goal

pub leave-requires-clause-begins : goal.leave-requires-clause-begins
leave-requires-clause-begins g c =
    list_begins c.state-place.result.now c.begin_turn.new.self c.close_port-destroyed.new.self
    c.args.clock.now c.begin_turn.result c.begin_turn.ensures.in_time c.begin_turn.ensures.now
    c.close_port-destroyed.ensures.stamped (state_of c.enter-held.result) _
    c.state-place.ensures.value c.enter-held.ensures.entered

turn : (g : _) (c : goal.After-leave g) →
    Taken c.args.clock.now c.begin_turn.result (view_of c.args.pass.now)
    (view_of c.leave.new.pass) c.begin_turn.new.self.entries c.close_port-destroyed.new.self.entries
turn g c =
    taken (view_of c.args.pass.now) (view_of c.enter-held.new.pass) (view_of c.leave.new.pass)
    (state_of c.enter-held.result) c.state-place.result.now c.begin_turn.new.self
    c.close_port-destroyed.new.self c.args.clock.now c.begin_turn.result
    c.state-place.ensures.value c.begin_turn.ensures.in_time c.begin_turn.ensures.later
    c.begin_turn.ensures.now c.close_port-destroyed.ensures.stamped c.enter-held.ensures.begins
    c.enter-held.ensures.inside c.leave.ensures.left

pub returns-clause-turn : goal.returns-clause-turn
returns-clause-turn g c =
    closed (turn g c) c.close_port-destroyed.ensures.legal c.args.port c.close_port-destroyed.result
    c.close_port-destroyed.ensures.entries c.close_port-destroyed.ensures.count

pub returns-clause-short : goal.returns-clause-short
returns-clause-short g c =
    let long = (turn g c).as_long in
    omega (arith, long, c.close_port-destroyed.ensures.short)
