use Rattle.std.proofs.Common.{◌≡◌, [], arith}
use Rattle.turn_lock.specs.Passes.{view_of, state_of}
use Rattle.locked_place.proofs.TurnTimes.{Taken, list_begins, taken, asked, looks_with}
use Rattle.locked_place.proofs.turns.ask.Goals as goal

pub leave-requires-clause-begins : goal.leave-requires-clause-begins
leave-requires-clause-begins g c =
    list_begins c.state-place.result.now c.begin_turn.new.self c.ask-asked.new.self
    c.args.clock.now c.begin_turn.result c.begin_turn.ensures.in_time c.begin_turn.ensures.now
    c.ask-asked.ensures.stamped (state_of c.enter-held.result) _
    c.state-place.ensures.value c.enter-held.ensures.entered

turn : (g : _) (c : goal.After-leave g) →
    Taken c.args.clock.now c.begin_turn.result (view_of c.args.pass.now)
    (view_of c.leave.new.pass) c.begin_turn.new.self.entries c.ask-asked.new.self.entries
turn g c =
    taken (view_of c.args.pass.now) (view_of c.enter-held.new.pass) (view_of c.leave.new.pass)
    (state_of c.enter-held.result) c.state-place.result.now c.begin_turn.new.self
    c.ask-asked.new.self c.args.clock.now c.begin_turn.result
    c.state-place.ensures.value c.begin_turn.ensures.in_time c.begin_turn.ensures.later
    c.begin_turn.ensures.now c.ask-asked.ensures.stamped c.enter-held.ensures.begins
    c.enter-held.ensures.inside c.leave.ensures.left

pub returns-clause-turn : goal.returns-clause-turn
returns-clause-turn g c =
    asked (turn g c) c.ask-asked.ensures.legal c.args.question.port c.args.question.call
    c.args.question.request c.ask-asked.new.handed.items c.ask-asked.result
    c.ask-asked.ensures.asks (rw c.requires.none at c.ask-asked.ensures.handed)

pub returns-clause-short : goal.returns-clause-short
returns-clause-short g c =
    let long = (turn g c).as_long in
    omega (arith, long, c.ask-asked.ensures.short)

pub returns-clause-err : goal.returns-clause-err
returns-clause-err g c =
    looks_with (turn g c) c.ask-asked.ensures.legal c.ask-asked.result
    (c.ask-asked.new.handed.items ≡ [])
    (rw c.requires.none at c.ask-asked.ensures.err)
