use Rattle.std.proofs.Common.{refl, ap}
use Rattle.solo_plane.specs.PlaneView.{world_in}
use Rattle.solo_run.specs.RunState.{world_of}
use Rattle.solo_run.specs.RunState as run
use Rattle.solo_run.specs.declared.inspector.Inspector.{Inspector}
use Rattle.solo_run.proofs.EnoughMemory.{GoesOnInTime}
use Rattle.solo_run.proofs.RunProgress.{goes_as}
use Rattle.solo_run.proofs.FirstMessage.{none_lost}
use Rattle.solo_run.proofs.Steps.{Feeds, feeds, fed_goes}
use Rattle.solo_run.proofs.run.Run.feed.Goals as goal

in_time : (c : goal.Else-lost-gt0) → GoesOnInTime
in_time c = record {
  arrival = c.what_goes_on_is_in_time.ensures.arrival;
  request = c.what_goes_on_is_in_time.ensures.request;
}

feeds_so : (c : goal.Else-lost-gt0) → Feeds (run.setting_of c.args.self.now) c.args.packet
    (world_of c.args.self.now) (world_in c.feed.new.self)
feeds_so c =
    feeds (in_time c) (run.setting_of c.args.self.now) (world_of c.args.self.now) c.args.packet
    (world_in c.feed.new.self) c.in-Ok.field-0 c.requires.new c.in-Ok.ensures.fed
    (none_lost _ _ c.lost.ensures.count c.if-lost-gt0.false)

pub returns-clause-going : goal.returns-clause-going
returns-clause-going c =
    goes_as c.args.script.now (run.setting_of c.args.self.now) _ (world_in c.feed.new.self)
    c.args.self.now.inspectors.items _ c.in-Ok.ensures.made_with.setting refl
    (fed_goes c.args.script.now (run.setting_of c.args.self.now) (world_of c.args.self.now)
    (world_in c.feed.new.self) c.args.self.now.inspectors.items c.args.packet c.requires.going
    (feeds_so c) (none_lost _ _ c.lost.ensures.count c.if-lost-gt0.false)
    (rw c.in-Ok.ensures.made_with.setting at c.lost.ensures.facts))

pub returns-clause-world : goal.returns-clause-world
returns-clause-world c = (feeds_so c).world

pub returns-clause-fed : goal.returns-clause-fed
returns-clause-fed c = (feeds_so c).cards

pub returns-clause-open : goal.returns-clause-open
returns-clause-open c p = ap (λ (i : Inspector). i.is_open) ((feeds_so c).minds 0 p)
