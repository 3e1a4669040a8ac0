use Rattle.std.proofs.Common.{◌≡◌, ◌+◌, ◌∙◌, ℕ, suc, List, ap, arith, length, subst}
use Rattle.inspector_script.specs.Scripts.{closing}
use Rattle.run_parts.specs.Log.{all_due}
use Rattle.plane.specs.Planes.{places_of}
use Rattle.live_work.specs.declared.feeding.Feeding.{Feeding}
use Rattle.nfq_live.specs.Crews.{AreOpenFrom, AreReceived}
use Rattle.nfq_live.specs.Endings.{IsAtMeeting}
use Rattle.nfq_live.proofs.PortEndStage.{ends_look}
use Rattle.nfq_live.proofs.CrewSteps.{still_open}
use Rattle.nfq_live.proofs.PortEndMeeting.{ends_begin}
use Rattle.nfq_live.proofs.crew.Crew.end_all.Goals as goal

pub loop-place-init : goal.loop-place-init
loop-place-init g c =
    let places = places_of c.args.stage.now.plane.now in
    let on = c.in_ok-empty.ensures.on in
    record {
      crew = c.empty.ensures.crew;
      minds = c.in_ok-empty.ensures.minds;
      are_open = λ p least less. still_open c.args.self.now c.empty.new.self on.alone _
          ∙ c.requires.are_open p least less;
      received = subst (λ (l : List ℕ). AreReceived l places c.empty.new.self) c.requires.order
          c.in_ok-empty.ensures.received;
      fed = ap (λ (f : Feeding). f.pass.fed) on.alone.feeding;
      ends = λ size m. ends_look c.args.stage.now.script.now places size 0
          (all_due (closing c.args.stage.now.script.now 0)) c.args.self.now c.empty.new.self on
          (ends_begin c.a_port_does_what_is_next.ensures.begins c.args.stage.now.script.now places
          size 0
          c.args.self.now m);
      met = λ size m some. absurd (omega (arith, some));
    }

pub end_port-requires-clause-place : goal.end_port-requires-clause-place
end_port-requires-clause-place g c κs within =
    let all = ap (λ (l : List ℕ). length l) c.ports-place-end.ensures.value in
    omega (arith, all, c.loop-place-test.true)

pub loop-place-preserved : goal.loop-place-preserved
loop-place-preserved g c =
    let places = places_of c.args.stage.now.plane.now in
    let script = c.args.stage.now.script.now in
    let one : suc c.loop-place.place ≡ c.loop-place.place + 1 = omega arith in
    record {
      crew = c.end_port.ensures.crew;
      minds = c.in_ok-end_port.ensures.minds;
      are_open = subst (λ (k : ℕ). AreOpenFrom script k c.end_port.new.self) one
          c.in_ok-end_port.ensures.are_open;
      received = c.in_ok-end_port.ensures.received;
      fed = c.in_ok-end_port.ensures.fed ∙ c.loop-place.invariant.fed;
      ends = λ size m.
          ends_begin c.a_port_does_what_is_next.ensures.begins script places size
          (c.loop-place.place + 1) c.end_port.new.self
          (subst (λ (k : ℕ). IsAtMeeting script places size k c.end_port.new.self) one
          (c.in_ok-end_port.ensures.ended size (c.loop-place.invariant.ends size m)));
      met = λ size m some.
          subst (λ (k : ℕ). IsAtMeeting script places size k c.end_port.new.self) one
          (c.in_ok-end_port.ensures.ended size (c.loop-place.invariant.ends size m));
    }

pub returns-clause-ended : goal.returns-clause-ended
returns-clause-ended g c = λ size m.
    let all = ap (λ (l : List ℕ). length l) c.ports-place-end.ensures.value in
    let last : c.loop-place.place ≡ length c.args.stage.now.script.now.ports =
    omega (arith, all, c.loop-place-test.false, c.loop-place.auto.place-end) in
    subst (λ (k : ℕ). IsAtMeeting c.args.stage.now.script.now (places_of c.args.stage.now.plane.now)
    size k
    c.loop-place.self) last
    (c.loop-place.invariant.met size m
    (omega (arith, last, c.ports-place-end.ensures.facts.some_port)))
