use Rattle.solo_run.specs.RunState.{AreOpen, Keeps, world_of}
use Rattle.solo_run.proofs.RunProgress.{are_opened}
use Rattle.solo_run.proofs.StepSequence.{are_open_on, on_ok}
use Rattle.solo_run.proofs.one_thread.go_to_ends.Goals as goal

pub open_all-requires-clause-open : goal.open_all-requires-clause-open
open_all-requires-clause-open c =
    are_opened c.args.script.now (world_of c.args.run.now) c.requires.world

pub returns-clause-open : goal.returns-clause-open
returns-clause-open c =
    let script = c.args.script.now in
    on_ok c.empty.result (Keeps (world_of c.pass_all.new.run) (world_of c.empty.new.run))
    (AreOpen script (world_of c.empty.new.run) 0)
    (λ keeps. are_open_on script (world_of c.pass_all.new.run) (world_of c.empty.new.run) 0
    (are_open_on script (world_of c.take_down.new.run) (world_of c.pass_all.new.run) 0
    (are_open_on script (world_of c.open_all.new.run) (world_of c.take_down.new.run) 0
    (are_open_on script (world_of c.args.run.now) (world_of c.open_all.new.run) 0
    (are_opened script (world_of c.args.run.now) c.requires.world)
    c.in_ok-open_all.ensures.keeps.open_ports)
    c.in_ok-take_down.ensures.keeps.open_ports)
    c.in_ok-pass_all.ensures.open)
    keeps.open_ports)
    c.empty.ensures.keeps
