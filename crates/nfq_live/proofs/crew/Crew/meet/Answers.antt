use Rattle.std.proofs.Common.{◌≡◌, List, rules, subst, sym}
use Rattle.place_rows.specs.Lists.{Every}
use Rattle.plane.specs.Meetings.{Meets}
use Rattle.plane.specs.Passes.{IsPortOf, PortView}
use Rattle.plane.specs.Planes.{order_of, places_of}
use Rattle.nfq_live.specs.declared.crew.Crew.{Crew}
use Rattle.nfq_live.proofs.AllPasses.{all_meet, meets_of, minds_kept, numbers_kept}
use Rattle.nfq_live.proofs.CrewSteps.{received_met}
use Rattle.nfq_live.proofs.WholeRun.{at_any}
use Rattle.nfq_live.proofs.crew.Crew.meet.Goals as goal
use Rattle.nfq_live.proofs.crew.Crew.meet.Goals.{After-into_vec-2}

-- all passes met, whose lists are the crew's
met : (c : After-into_vec-2) →
    Meets (places_of c.args.plane.now) c.args.self.now.feeding.pass c.meet-outcome.new.feeder
    c.args.self.now.ports.items c.into_vec.result.items c.args.self.now.closed.items
    c.into_vec-2.result.items
met c =
    let crew = c.args.self.now in
    let ports : c.from_vec-ports.result ≡ crew.ports.items = search rules in
    let closed : c.from_vec-closed.result ≡ crew.closed.items = search rules in
    meets_of c.args.plane.now crew.feeding.pass c.meet-outcome.new.feeder
    c.from_vec-ports.result crew.ports.items c.meet-outcome.new.ports c.into_vec.result.items
    c.from_vec-closed.result crew.closed.items c.meet-outcome.new.closed
    c.into_vec-2.result.items ports c.into_vec.ensures closed c.into_vec-2.ensures
    c.meet-outcome.ensures.met

pub returns-clause-crew : goal.returns-clause-crew
returns-clause-crew c =
    let crew = c.args.self.now in
    let meets = met (goal.at.returns-clause-crew c).After-into_vec-2 in
    record {
      all = all_meet c.args.plane.now crew.feeding.pass c.meet-outcome.new.feeder crew.ports.items
          c.into_vec.result.items crew.closed.items c.into_vec-2.result.items c.requires.all
          c.meet-outcome.ensures.feeder
          (subst (λ (l : List PortView). Every (IsPortOf c.args.plane.now) l)
          (sym c.into_vec.ensures) c.meet-outcome.ensures.ports)
          (subst (λ (l : List PortView). Every (IsPortOf c.args.plane.now) l)
          (sym c.into_vec-2.ensures) c.meet-outcome.ensures.closed) meets;
      looks = record { looks = c.requires.looks.looks };
    }

pub returns-clause-minds : goal.returns-clause-minds
returns-clause-minds c = λ script minds.
    let crew = c.args.self.now in
    let meets = met (goal.at.returns-clause-minds c).After-into_vec-2 in
    minds_kept script crew.ports.items c.into_vec.result.items crew.minds.items meets.each_port
    minds

pub returns-clause-numbers : goal.returns-clause-numbers
returns-clause-numbers c =
    let meets = met (goal.at.returns-clause-numbers c).After-into_vec-2 in
    numbers_kept c.args.self.now.ports.items c.into_vec.result.items meets.each_port

pub returns-clause-closed : goal.returns-clause-closed
returns-clause-closed c =
    let meets = met (goal.at.returns-clause-closed c).After-into_vec-2 in
    numbers_kept c.args.self.now.closed.items c.into_vec-2.result.items meets.each_closed

pub returns-clause-received : goal.returns-clause-received
returns-clause-received c = λ was.
    let crew = c.args.self.now in
    let later : Crew = record {
      feeding = record crew.feeding { pass = c.meet-outcome.new.feeder };
      ports = c.into_vec.result;
      minds = crew.minds;
      closed = c.into_vec-2.result;
    } in
    let meets = met (goal.at.returns-clause-received c).After-into_vec-2 in
    at_any c.meet-outcome.result _
    (received_met c.meetings_and_closings_send_nothing.ensures.meets
    c.meetings_and_closings_send_nothing.ensures.all (order_of c.args.plane.now)
    (places_of c.args.plane.now) crew later
    (c.passes_that_meet_are_met.ensures c.args.plane.now crew.feeding.pass
    c.meet-outcome.new.feeder crew.ports.items c.into_vec.result.items crew.closed.items
    c.into_vec-2.result.items c.requires.all meets)
    (numbers_kept crew.ports.items c.into_vec.result.items meets.each_port) was)
