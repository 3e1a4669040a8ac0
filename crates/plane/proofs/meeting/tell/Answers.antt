use Rattle.std.proofs.Common.{ap, List, [], ◌++◌}
use Rattle.histories.specs.declared.histories.Lost.{Lost}
use Rattle.place_turns.specs.Timely.{feeder, port_with}
use Rattle.plane.specs.Past.{after_lost, lost_by}
use Rattle.plane.specs.Planes.{setting_of}
use Rattle.plane.proofs.PassMeetings.{port_told, feeder_told}
use Rattle.plane.proofs.PortStates.{kept_in, timely_in}
use Rattle.plane.proofs.meeting.tell.Goals as goal

-- ---- a port's pass tells the feeder's

pub returns-in-ToFeeder-clause-port : goal.returns-in-ToFeeder-clause-port
returns-in-ToFeeder-clause-port g c =
    let is = rw (← c.port.view_is) at c.requires.port in
    rw (← c.port.view_is)
    (port_told c.args.plane.now _ c.tell.new.self.locks c.tell.new.self.trail is
    c.tell.ensures.of c.tell.ensures.locks.0 c.tell.ensures.lost.0
    (c.tell.ensures.balanced (setting_of c.args.plane.now) [] _))

pub returns-in-ToFeeder-clause-feeder : goal.returns-in-ToFeeder-clause-feeder
returns-in-ToFeeder-clause-feeder g c =
    let is = rw (← c.port.view_is) at c.requires.port in
    let feeds = rw (← c.feeder.view_is) at c.requires.feeder in
    let front = lost_by c.feeder.inside.past in
    rw (← c.feeder.view_is)
    (feeder_told c.args.plane.now _ c.tell.new.others.locks
    (after_lost front c.tell.new.others.trail) feeds c.tell.ensures.others_of
    c.tell.ensures.locks.1 (ap (λ (lost : List Lost). front ++ lost) c.tell.ensures.lost.1)
    (c.tell.ensures.others_balanced is.balanced.legal (setting_of c.args.plane.now) _ _))

pub invariant_of-feeder : goal.invariant_of-feeder
invariant_of-feeder g c = (
  c.feeder.invariant.0,
  c.tell.ensures.others_open
      (port_with c.port.inside.port c.port.inside.log.dids.items c.port.inside.receiver.received)
      feeder (timely_in _ _ g.S.PortState.is_open c.port.invariant) c.feeder.invariant.1,
)

-- ---- the feeder's tells a port's

pub returns-in-ToPorts-clause-port : goal.returns-in-ToPorts-clause-port
returns-in-ToPorts-clause-port g c =
    let is = rw (← c.port.view_is) at c.requires.port in
    let feeds = rw (← c.feeder.view_is) at c.requires.feeder in
    let tell = c.tell-in-ToPorts in
    rw (← c.port.view_is)
    (port_told c.args.plane.now _ tell.new.others.locks tell.new.others.trail is
    tell.ensures.others_of tell.ensures.locks.1 tell.ensures.lost.1
    (tell.ensures.others_balanced feeds.balanced.legal (setting_of c.args.plane.now) [] _))

pub returns-in-ToPorts-clause-feeder : goal.returns-in-ToPorts-clause-feeder
returns-in-ToPorts-clause-feeder g c =
    let feeds = rw (← c.feeder.view_is) at c.requires.feeder in
    let front = lost_by c.feeder.inside.past in
    let tell = c.tell-in-ToPorts in
    rw (← c.feeder.view_is)
    (feeder_told c.args.plane.now _ tell.new.self.locks (after_lost front tell.new.self.trail)
    feeds tell.ensures.of tell.ensures.locks.0
    (ap (λ (lost : List Lost). front ++ lost) tell.ensures.lost.0)
    (tell.ensures.balanced (setting_of c.args.plane.now) _ _))

pub invariant_of-port-in-ToPorts : goal.invariant_of-port-in-ToPorts
invariant_of-port-in-ToPorts g c =
    let holder =
    port_with c.port.inside.port c.port.inside.log.dids.items c.port.inside.receiver.received in
    let told = c.feeder.invariant.1.timely in
    let tell = c.tell-in-ToPorts in
    kept_in _ _ g.S.PortState.is_open tell.new.others.clock tell.new.others.timed
    (tell.ensures.others_open feeder holder told) (tell.ensures.others_timely feeder holder told)
    c.port.invariant

pub invariant_of-feeder-in-ToPorts : goal.invariant_of-feeder-in-ToPorts
invariant_of-feeder-in-ToPorts g c =
    (c.feeder.invariant.0, c.tell-in-ToPorts.ensures.timely_open feeder c.feeder.invariant.1)
