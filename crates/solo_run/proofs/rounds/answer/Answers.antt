use Rattle.std.proofs.Common.{◌≡◌, subst}
use Rattle.packet_moves.specs.declared.setting.Setting.{Setting}
use Rattle.solo_schedule.specs.Sending.{all_done}
use Rattle.solo_run.specs.RunState.{port_at, setting_of, world_of}
use Rattle.solo_run.proofs.StepSequence.{keeps_both}
use Rattle.solo_run.proofs.Words.{last_of_words, received_words}
use Rattle.solo_run.proofs.Looks.{looked_nothing, looked_one}
use Rattle.solo_run.proofs.rounds.answer.Goals as goal

pub do_all-requires-clause-last : goal.do_all-requires-clause-last
do_all-requires-clause-last c =
    last_of_words c.in-Some.asks
    (received_words c.args.script.now c.args.place (port_at c.args.script.now c.args.place) _
    c.in-Some.asks (world_of c.args.run.now) (world_of c.receive.new.self)
    (rw c.in-Some.is at c.in_ok-asks.ensures.received)
    (c.ports_close_at_the_end.ensures.answer c.args.script.now))

pub returns-in_ok-do_all-in-Some-clause-looked : goal.returns-in_ok-do_all-in-Some-clause-looked
returns-in_ok-do_all-in-Some-clause-looked c before =
    let port = port_at c.args.script.now c.args.place in
    let Does : Setting → Type 0 =
    λ s. world_of c.do_all.new.run
    ≡ all_done (λ w. w) s port c.in-Some.asks (world_of c.receive.new.self) in
    looked_one (setting_of c.args.run.now) c.args.script.now c.args.place port c.in-Some.asks
    (world_of c.args.run.now) (world_of c.receive.new.self) (world_of c.do_all.new.run) before
    c.requires.open
    (rw c.in-Some.is at c.in_ok-asks.ensures.received)
    (subst Does c.in_ok-asks.ensures.made_with.setting c.in_ok-do_all-in-Some.ensures.done)

pub returns-in_ok-do_all-in-Some-clause-keeps : goal.returns-in_ok-do_all-in-Some-clause-keeps
returns-in_ok-do_all-in-Some-clause-keeps c =
    keeps_both (world_of c.args.run.now) (world_of c.receive.new.self) (world_of c.do_all.new.run)
    c.in_ok-asks.ensures.keeps
    (c.in_ok-do_all-in-Some.ensures.keeps
    (received_words c.args.script.now c.args.place (port_at c.args.script.now c.args.place) _
    c.in-Some.asks (world_of c.args.run.now) (world_of c.receive.new.self)
    (rw c.in-Some.is at c.in_ok-asks.ensures.received)
    (c.ports_close_at_the_end.ensures.answer c.args.script.now)))

pub returns-in-None-clause-looked : goal.returns-in-None-clause-looked
returns-in-None-clause-looked c before =
    looked_nothing (setting_of c.args.run.now) c.args.script.now c.args.place
    (port_at c.args.script.now c.args.place) (world_of c.args.run.now)
    (world_of c.receive.new.self) before
    (rw c.in-None.is at c.in_ok-asks.ensures.received)
