use Rattle.std.proofs.Common.{◌≡◌, ◌∙◌, ℕ, List, ap, arith, subst, suc, sym, true}
use Rattle.std.specs.Prelude.{nat_eq, slice_index, slice_index_or}
use Rattle.std.specs.List.{list_any}
use Rattle.script_lines.specs.declared.ask.Ask.{Ask}
use Rattle.inspector_script.specs.Scripts.{closing}
use Rattle.run_parts.specs.Ports.{is_port, place_in}
use Rattle.plane.specs.Passes.{PortView}
use Rattle.plane.specs.Planes.{order_of, places_of}
use Rattle.port_scripts.specs.Words.{ClosesLast}
use Rattle.live_runs.specs.Passes.{AreMet}
use Rattle.live_work.specs.declared.feeding.Feeding.{Feeding}
use Rattle.nfq_live.specs.Crews.{AreOpenFrom, AreReceived, HaveMinds, passes_of}
use Rattle.nfq_live.specs.Endings.{EndsTo, IsAtMeeting}
use Rattle.nfq_live.specs.Sizes.{Size}
use Rattle.live_work.proofs.SentAsks.{on_ok}
use Rattle.nfq_live.proofs.WholeRun.{at_any}
use Rattle.nfq_live.proofs.PortEnd.{a_port, both_long, found_place, machine_place, machine_within}
use Rattle.nfq_live.proofs.PortEnd.{next_open}
use Rattle.live_work.proofs.UnchangedPass.{some_place}
use Rattle.nfq_live.proofs.PortEndMeeting.{at_meeting, still_received}
use Rattle.nfq_live.proofs.crew.Crew.end_port.Given.{Over}
use Rattle.nfq_live.proofs.crew.Crew.end_port.Goals as goal
use Rattle.nfq_live.proofs.crew.Crew.end_port.Goals.{In-Some}

-- the port that was found is the script's at this place
found : (g : Over) (c : In-Some g) (d : PortView) →
    (place_in (slice_index_or c.args.self.now.ports.items c.in-Some.at d).port
    c.args.stage.now.script.now.ports ≡ c.args.place)
    × (is_port c.args.stage.now.script.now
    (slice_index_or c.args.self.now.ports.items c.in-Some.at d).port ≡ true)
found g c d =
    let script = c.args.stage.now.script.now in
    found_place script c.args.place
    (slice_index_or c.args.self.now.ports.items c.in-Some.at d).port
    (c.each_port_has_its_place.ensures script c.ports.ensures.facts.ports_differ)
    c.requires.place (c.in-Some.ensures.there.1 d
    ∙ ap (λ (l : List ℕ). slice_index l c.args.place) c.ports.ensures.value)

pub index-requires : goal.index-requires
index-requires g c =
    omega (
      arith,
      c.in-Some.ensures.there.0,
      both_long c.args.stage.now.script.now c.args.self.now c.requires.minds,
      c.args.self.now.minds.ok.0,
    )

pub closing-requires : goal.closing-requires
closing-requires g c = record {
  has_port = machine_within c.args.stage.now.script.now c.args.self.now c.in-Some.at
      c.index.result.now c.requires.minds c.in-Some.ensures.there.0 c.index.ensures;
}

pub end_at-requires-clause-last : goal.end_at-requires-clause-last
end_at-requires-clause-last g c κs within =
    subst (λ (l : List Ask). ClosesLast l) (sym c.in_ok-asks.ensures.asks)
    (c.ports_close_at_the_end.ensures.closing c.args.stage.now.script.now
    c.index.result.now.machine.place)

pub end_at-requires-clause-ends : goal.end_at-requires-clause-ends
end_at-requires-clause-ends g c κs inside =
    let script = c.args.stage.now.script.now in
    record {
      crew = c.requires.crew;
      order = c.requires.order;
      minds = c.requires.minds;
      within = c.in-Some.ensures.there.0;
      its = λ d.
          (found_place script c.args.place
          (slice_index_or c.args.self.now.ports.items c.in-Some.at d).port
          (c.each_port_has_its_place.ensures script c.ports.ensures.facts.ports_differ)
          c.requires.place (c.in-Some.ensures.there.1 d
          ∙ ap (λ (l : List ℕ). slice_index l c.args.place) c.ports.ensures.value)).0;
      received = c.requires.received;
    }

pub returns-clause-minds : goal.returns-clause-minds
returns-clause-minds g c =
    at_any c.meet.result (HaveMinds c.args.stage.now.script.now c.meet.new.self)
    (c.meet.ensures.minds c.args.stage.now.script.now c.in_ok-end_at.ensures.minds)

pub returns-clause-are_open : goal.returns-clause-are_open
returns-clause-are_open g c =
    let script = c.args.stage.now.script.now in
    let crew = c.args.self.now in
    let d = a_port crew c.in-Some.at c.in-Some.ensures.there.0 in
    let port = (slice_index_or crew.ports.items c.in-Some.at d).port in
    let places = c.each_port_has_its_place.ensures script c.ports.ensures.facts.ports_differ in
    let its = found g (goal.at.returns-clause-are_open g c).In-Some d in
    at_any c.meet.result (AreOpenFrom script (suc c.args.place) c.meet.new.self)
    (next_open script c.args.place port crew c.end_at.new.self c.meet.new.self places its.0
    c.requires.are_open (c.in_ok-end_at.ensures.others d) c.meet.ensures.numbers)

pub returns-clause-ended : goal.returns-clause-ended
returns-clause-ended g c =
    let script = c.args.stage.now.script.now in
    let crew = c.args.self.now in
    let d = a_port crew c.in-Some.at c.in-Some.ensures.there.0 in
    let port = (slice_index_or crew.ports.items c.in-Some.at d).port in
    let its = found g (goal.at.returns-clause-ended g c).In-Some d in
    let many = places_of c.args.stage.now.plane.now in
    let mine = machine_place script crew c.in-Some.at c.args.place d c.index.result.now
    c.requires.minds c.in-Some.ensures.there.0 c.index.ensures its.0 in
    on_ok c.meet.result
    (AreMet (order_of c.args.stage.now.plane.now) (passes_of c.end_at.new.self) (passes_of
    c.meet.new.self))
    ((size : Size) → EndsTo script many size c.args.place (closing script c.args.place) crew →
    IsAtMeeting script many size (suc c.args.place) c.meet.new.self)
    (λ met size e.
    let all = subst (λ (l : List ℕ). AreMet l (passes_of c.end_at.new.self)
    (passes_of c.meet.new.self)) c.requires.order met in
    at_meeting (record {
      meeting = c.a_stage_ends_where_all_meet.ensures.meeting;
      rests = c.a_stage_ends_where_all_meet.ensures.rests;
      meets = c.a_place_stays_fed_by_all.ensures.meets;
      closed = c.nothing_is_sent_to_a_closed_port.ensures.closed;
      stage = c.nothing_is_sent_to_a_closed_port.ensures.stage;
    }) script many size c.args.place port c.end_at.new.self c.meet.new.self
    (some_place c.args.stage.now.plane.now) its.1 its.0
    (c.in_ok-end_at.ensures.stopped size
    (subst (λ (l : List Ask). EndsTo script many size c.args.place l crew)
    (sym (c.in_ok-asks.ensures.asks ∙ ap (λ (k : ℕ). closing script k) mine)) e)) all
    (λ p. ap (λ (l : List ℕ). list_any (nat_eq p) l) c.meet.ensures.numbers)
    (still_received c.meetings_and_closings_send_nothing.ensures.meets
    c.meetings_and_closings_send_nothing.ensures.all script.ports many port c.end_at.new.self
    c.meet.new.self all (c.in_ok-end_at.ensures.its d))) c.meet.ensures.met

pub returns-clause-received : goal.returns-clause-received
returns-clause-received g c =
    let many = places_of c.args.stage.now.plane.now in
    on_ok c.meet.result (AreReceived (order_of c.args.stage.now.plane.now) many c.meet.new.self)
    (AreReceived c.args.stage.now.script.now.ports many c.meet.new.self)
    (λ was. subst (λ (l : List ℕ). AreReceived l many c.meet.new.self) c.requires.order was)
    (c.meet.ensures.received
    (subst (λ (l : List ℕ). AreReceived l many c.end_at.new.self) (sym c.requires.order)
    c.in_ok-end_at.ensures.received))

pub returns-clause-fed : goal.returns-clause-fed
returns-clause-fed g c =
    let d = a_port c.args.self.now c.in-Some.at c.in-Some.ensures.there.0 in
    at_any c.meet.result (c.meet.new.self.feeding.pass.fed ≡ c.args.self.now.feeding.pass.fed)
    (c.meet.ensures.fed
    ∙ ap (λ (f : Feeding). f.pass.fed) (c.in_ok-end_at.ensures.others d).feeding)
