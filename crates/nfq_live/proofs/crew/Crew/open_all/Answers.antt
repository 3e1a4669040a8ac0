use Rattle.std.proofs.Common.{◌≡◌, ◌<◌, ℕ, List, ap, arith, length, subst}
use Rattle.std.specs.Prelude.{slice_index}
use Rattle.run_parts.specs.Ports.{place_in}
use Rattle.plane.specs.Planes.{places_of}
use Rattle.live_runs.specs.Passes.{AreMet}
use Rattle.nfq_live.specs.Crews.{passes_of}
use Rattle.nfq_live.specs.Openings.{HaveOpened}
use Rattle.live_work.proofs.UnchangedPass.{some_place}
use Rattle.nfq_live.proofs.PortOpenings.{opens_next, placed_at}
use Rattle.nfq_live.proofs.crew.Crew.open_all.Goals as goal

pub say_opening-requires-clause-place : goal.say_opening-requires-clause-place
say_opening-requires-clause-place g c κs within =
    let all = ap (λ (l : List ℕ). length l) c.ports-place-end.ensures.value in
    omega (arith, all, c.loop-place-test.true)

pub loop-place-preserved : goal.loop-place-preserved
loop-place-preserved g c =
    let script = c.args.stage.now.script.now in
    let all = ap (λ (l : List ℕ). length l) c.ports-place-end.ensures.value in
    let less : c.loop-place.place < length script.ports =
    omega (arith, all, c.loop-place-test.true) in
    let facts = c.ports-place-end.ensures.facts in
    let its = placed_at script (λ (r : ℕ). place_in r script.ports) 0 script.ports
    c.loop-place.place (c.each_port_has_its_place.ensures script facts.ports_differ).placed less in
    record {
      crew = c.meet.ensures.crew;
      minds = c.meet.ensures.minds script c.say_opening.ensures.minds;
      opened = opens_next c.ports_open_one_after_the_other.ensures.begins
          c.ports_open_one_after_the_other.ensures.next c.the_feeder_keeps_its_time.ensures.meets
          script (places_of c.args.stage.now.plane.now) c.loop-place.place
          (slice_index script.ports c.loop-place.place) c.loop-place.self c.say_opening.new.self
          c.meet.new.self (some_place c.args.stage.now.plane.now) facts its.1 (omega (arith, its.0))
          c.loop-place.invariant.opened c.say_opening.ensures.others
          c.in_ok-say_opening.ensures.said
          (subst (λ (l : List ℕ). AreMet l (passes_of c.say_opening.new.self)
          (passes_of c.meet.new.self)) c.requires.order c.in_ok-meet.ensures.met)
          c.meet.ensures.numbers c.meet.ensures.closed c.meet.ensures.fed;
    }

pub returns-clause-opened : goal.returns-clause-opened
returns-clause-opened g c =
    let all = ap (λ (l : List ℕ). length l) c.ports-place-end.ensures.value in
    let last : c.loop-place.place ≡ length c.args.stage.now.script.now.ports =
    omega (arith, all, c.loop-place-test.false, c.loop-place.auto.place-end) in
    subst (λ (k : ℕ). HaveOpened c.args.stage.now.script.now (places_of c.args.stage.now.plane.now)
    k
    c.loop-place.self) last c.loop-place.invariant.opened
