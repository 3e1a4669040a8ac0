use Rattle.std.proofs.Common.{refl}
use Rattle.solo_plane.specs.PlaneView.{setting_of, world_in}
use Rattle.solo_run.specs.RunState.{world_of}
use Rattle.solo_run.specs.RunState as run
use Rattle.solo_run.proofs.RunProgress.{goes_as}
use Rattle.solo_run.proofs.Steps.{down_goes, down_keeps}
use Rattle.solo_run.proofs.run.Run.device_down.Goals as goal

pub returns-clause-going : goal.returns-clause-going
returns-clause-going c =
    down_goes c.args.script.now (setting_of c.device_down.new.self) (world_of c.args.self.now)
    (world_in c.device_down.new.self) c.args.self.now.inspectors.items c.args.device
    (goes_as c.args.script.now (run.setting_of c.args.self.now) _ (world_of c.args.self.now)
    c.args.self.now.inspectors.items _ c.device_down.ensures.made_with.setting refl c.requires)
    c.in_ok-device_down.ensures.world c.lost-lost.ensures.facts

pub returns-clause-keeps : goal.returns-clause-keeps
returns-clause-keeps c =
    down_keeps (world_of c.args.self.now) (world_in c.device_down.new.self) c.args.device
    c.in_ok-device_down.ensures.world
