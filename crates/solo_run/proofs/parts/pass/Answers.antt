use Rattle.solo_run.specs.RunState.{Keeps, SameOpen, world_of}
use Rattle.solo_run.proofs.StepSequence.{on_ok, same_both}
use Rattle.solo_run.proofs.parts.pass.Goals as goal

pub returns-clause-open : goal.returns-clause-open
returns-clause-open c =
    on_ok c.pause.result (Keeps (world_of c.take_down.new.run) (world_of c.pause.new.run))
    (SameOpen (world_of c.args.run.now) (world_of c.pause.new.run))
    (λ keeps. same_both (world_of c.args.run.now) (world_of c.take_down.new.run)
    (world_of c.pause.new.run)
    (same_both (world_of c.args.run.now) (world_of c.feed_frame.new.run)
    (world_of c.take_down.new.run) c.in_ok-feed_frame.ensures.open
    c.in_ok-take_down.ensures.keeps.open_ports)
    keeps.open_ports)
    c.pause.ensures.keeps
