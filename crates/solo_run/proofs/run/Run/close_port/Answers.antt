use Rattle.std.proofs.Common.{refl}
use Rattle.solo_plane.specs.PlaneView.{setting_of, world_in}
use Rattle.solo_run.specs.RunState.{port_at, world_of}
use Rattle.solo_run.specs.RunState as run
use Rattle.solo_run.proofs.RunProgress.{goes_as}
use Rattle.solo_run.proofs.Steps.{closed_goes, closed_keeps}
use Rattle.solo_run.proofs.run.Run.close_port.Goals as goal

pub returns-clause-going : goal.returns-clause-going
returns-clause-going c =
    closed_goes c.args.script.now (setting_of c.close_port.new.self) (world_of c.args.self.now)
    (world_in c.close_port.new.self) c.args.self.now.inspectors.items
    c.count_closing.new.all.items c.args.place c.requires.place
    (goes_as c.args.script.now (run.setting_of c.args.self.now) _ (world_of c.args.self.now)
    c.args.self.now.inspectors.items _ c.close_port.ensures.made_with.setting refl
    c.requires.going)
    (rw c.ports.ensures.value at c.close_port.ensures.world) c.lost-lost.ensures.facts
    c.count_closing.ensures.as_many c.count_closing.ensures.others c.count_closing.ensures.this

pub returns-clause-keeps : goal.returns-clause-keeps
returns-clause-keeps c =
    closed_keeps (world_of c.args.self.now) (world_in c.close_port.new.self)
    (port_at c.args.script.now c.args.place)
    (rw c.ports.ensures.value at c.close_port.ensures.world)
