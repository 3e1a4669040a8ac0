use Rattle.std.proofs.Common.{◌∙◌, ◌++◌, ◌∷◌, [], List, ap, refl}
use Rattle.plane.specs.Passes.{PortView}
use Rattle.plane.specs.Planes.{order_of, places_of}
use Rattle.live_passes.specs.Views.{seen_of}
use Rattle.nfq_live.specs.declared.crew.Crew.{Crew}
use Rattle.nfq_live.proofs.AllPasses.{minds_out}
use Rattle.live_work.proofs.UnchangedPass.{port_owns}
use Rattle.nfq_live.proofs.CrewSteps.{CrewCloses, crew_closes, port_long, port_there}
use Rattle.nfq_live.proofs.CrewSteps.{received_shut, shut_at}
use Rattle.nfq_live.proofs.crew.Crew.close_at.Goals as goal

pub returns : goal.returns
returns g c =
    let crew = c.args.self.now in
    let later : Crew = record {
      feeding = crew.feeding;
      ports = c.remove-pass.new.self;
      minds = c.remove-mind.new.self;
      closed = c.push_reserved.new.self;
    } in
    let places = places_of c.args.plane.now in
    let of = port_there c.args.plane.now crew c.args.at c.remove-pass.result c.requires.crew
    c.requires.within c.remove-pass.ensures.value in
    let closes : CrewCloses c.args.plane.now places crew later c.remove-pass.result =
    crew_closes (record {
      sides = c.parts_are_put_together_in_any_order.ensures.sides;
      order = c.parts_are_put_together_in_any_order.ensures.order;
      normal = c.a_part_is_known_by_its_ways.ensures.union;
    }) c.args.plane.now places crew later c.args.at c.remove-pass.result c.close_port.result
    (record {
      feeding_is = refl;
      ports_are = c.remove-pass.ensures.items;
      closed_are = c.push_reserved.ensures.items
          ∙ ap (λ (l : List PortView). l ++ c.close_port.result ∷ []) c.reserve.ensures.items;
    }) c.requires.within c.remove-pass.ensures.value c.requires.crew
    (record {
      of = c.close_port.ensures.pass;
      port = ap (λ (p : PortView). p.port) c.close_port.ensures.closed.others;
      parts = c.close_port.ensures.parts;
    })
    (c.ports_speak_by_their_passes.ensures.closes places c.remove-pass.result c.close_port.result
    (port_owns c.args.plane.now c.remove-pass.result of)
    (port_long c.args.plane.now c.remove-pass.result of) c.close_port.ensures.closed)
    (λ k most. ap seen_of (c.close_port.ensures.closed.turned.rest k most)) in
    record {
      crew = closes.crew;
      minds = λ script minds.
          minds_out script crew.ports.items c.remove-pass.new.self.items crew.minds.items
          c.remove-mind.new.self.items c.args.at c.remove-pass.ensures.items
          c.remove-mind.ensures.items minds;
      shuts = λ d.
          shut_at c.args.plane.now places c.args.at crew later c.remove-pass.result d
          c.requires.within
          c.remove-pass.ensures.value closes;
      received = λ was.
          received_shut c.meetings_and_closings_send_nothing.ensures.closes
          c.meetings_and_closings_send_nothing.ensures.all (order_of c.args.plane.now) places
          c.remove-pass.result.port crew later closes.shuts was;
    }
