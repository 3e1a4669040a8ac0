use Rattle.plane.specs.Planes.{places_of}
use Rattle.nfq_live.proofs.PortEnd.{both_long}
use Rattle.nfq_live.proofs.CrewSteps.{all_look_on, none_look}
use Rattle.nfq_live.proofs.crew.Crew.empty.Goals as goal

pub loop-init : goal.loop-init
loop-init g c = record {
  crew = c.requires.crew;
  minds = c.requires.minds;
  on = none_look c.what_a_port_does_adds_up.ensures.no_look c.args.stage.now.script.now
      (places_of c.args.stage.now.plane.now) c.args.self.now;
}

pub loop-preserved : goal.loop-preserved
loop-preserved g c = record {
  crew = c.round.ensures.crew;
  minds = c.in_ok-found.ensures.minds;
  on = all_look_on c.what_a_port_does_adds_up.ensures.next_look c.args.stage.now.script.now
      (places_of c.args.stage.now.plane.now) c.args.self.now c.loop.self c.round.new.self
      c.loop.invariant.on c.in_ok-found.ensures.on;
}

pub has_received_all-requires : goal.has_received_all-requires
has_received_all-requires g c = record {
  both = both_long c.args.stage.now.script.now c.round.new.self c.in_ok-found.ensures.minds;
}

pub returns-then-has_received_all-clause-on : goal.returns-then-has_received_all-clause-on
returns-then-has_received_all-clause-on g c =
    all_look_on c.what_a_port_does_adds_up.ensures.next_look c.args.stage.now.script.now
    (places_of c.args.stage.now.plane.now) c.args.self.now c.loop.self c.round.new.self
    c.loop.invariant.on c.in_ok-found.ensures.on
