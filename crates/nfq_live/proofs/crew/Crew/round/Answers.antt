use Rattle.std.proofs.Common.{◌∙◌, arith, refl}
use Rattle.std.proofs.lemmas.List.{length-set}
use Rattle.std.specs.Prelude.{slice_set}
use Rattle.plane.specs.Planes.{places_of}
use Rattle.live_work.specs.Minds.{IsMind}
use Rattle.nfq_live.proofs.AllPasses.{goes_on_at}
use Rattle.nfq_live.proofs.PortNumbers.{zip_long, zip_put}
use Rattle.nfq_live.proofs.CrewSteps.{list_looks, mind_there, none_look, port_there}
use Rattle.nfq_live.proofs.crew.Crew.round.Goals as goal

pub loop-at-init : goal.loop-at-init
loop-at-init g c = record {
  crew = c.requires.crew;
  minds = c.requires.minds;
  long = refl;
  on = none_look c.what_a_port_does_adds_up.ensures.no_look c.args.stage.now.script.now
      (places_of c.args.stage.now.plane.now) c.args.self.now;
}

pub index_mut-pass-requires : goal.index_mut-pass-requires
index_mut-pass-requires g c =
    omega (arith, c.loop-at-test.true, c.len-at-end.ensures, c.loop-at.invariant.long)

pub index_mut-mind-requires : goal.index_mut-mind-requires
index_mut-mind-requires g c =
    omega (
      arith,
      c.loop-at-test.true,
      c.len-at-end.ensures,
      c.loop-at.invariant.long,
      zip_long (IsMind c.args.stage.now.script.now) c.loop-at.self.ports.items
          c.loop-at.self.minds.items
          c.loop-at.invariant.minds,
    )

pub look-requires-clause-pass : goal.look-requires-clause-pass
look-requires-clause-pass g c κs within =
    port_there c.args.stage.now.plane.now c.loop-at.self c.loop-at.at c.index_mut-pass.result.now
    c.loop-at.invariant.crew
    (omega (arith, c.loop-at-test.true, c.len-at-end.ensures, c.loop-at.invariant.long))
    c.index_mut-pass.ensures.value

pub look-requires-clause-mind : goal.look-requires-clause-mind
look-requires-clause-mind g c κs within =
    mind_there c.args.stage.now.script.now c.loop-at.self c.loop-at.at c.index_mut-pass.result.now
    c.index_mut-mind.result.now c.loop-at.invariant.minds
    (omega (arith, c.loop-at-test.true, c.len-at-end.ensures, c.loop-at.invariant.long))
    c.index_mut-pass.ensures.value c.index_mut-mind.ensures.value

pub returns-in_err-found-clause-crew : goal.returns-in_err-found-clause-crew
returns-in_err-found-clause-crew g c =
    let goes = goes_on_at c.args.stage.now.plane.now c.loop-at.self.feeding.pass
    c.loop-at.self.closed.items
    c.parts_stay_whole.ensures c.loop-at.self.ports.items c.loop-at.at c.index_mut-pass.result.now
    c.look.new.pass
    (omega (arith, c.loop-at-test.true, c.len-at-end.ensures, c.loop-at.invariant.long))
    c.index_mut-pass.ensures.value c.loop-at.invariant.crew.all c.look.ensures.stays in
    record { all = goes.all; looks = c.loop-at.invariant.crew.looks }

pub loop-at-preserved : goal.loop-at-preserved
loop-at-preserved g c =
    let goes = goes_on_at c.args.stage.now.plane.now c.loop-at.self.feeding.pass
    c.loop-at.self.closed.items
    c.parts_stay_whole.ensures c.loop-at.self.ports.items c.loop-at.at c.index_mut-pass.result.now
    c.look.new.pass
    (omega (arith, c.loop-at-test.true, c.len-at-end.ensures, c.loop-at.invariant.long))
    c.index_mut-pass.ensures.value c.loop-at.invariant.crew.all c.look.ensures.stays in
    let alone = c.loop-at.invariant.on.alone in
    record {
      crew = record { all = goes.all; looks = c.loop-at.invariant.crew.looks };
      minds = zip_put (IsMind c.args.stage.now.script.now) c.loop-at.self.ports.items
          c.loop-at.self.minds.items c.loop-at.at c.look.new.pass c.look.new.mind
          c.loop-at.invariant.minds c.in_ok-found.ensures.mind;
      long = length-set c.loop-at.self.ports.items c.loop-at.at c.look.new.pass
          ∙ c.loop-at.invariant.long;
      on = record {
        alone = record {
          numbers = goes.numbers ∙ alone.numbers;
          closed = alone.closed;
          feeding = alone.feeding;
        };
        each = λ workers port is.
            list_looks c.what_a_port_does_adds_up.ensures.next_look workers
            c.args.stage.now.plane.now c.args.stage.now.script.now (places_of
            c.args.stage.now.plane.now) c.args.self.now
            c.loop-at.self (slice_set c.loop-at.self.ports.items c.loop-at.at c.look.new.pass)
            c.index_mut-pass.result.now c.look.new.pass goes
            (c.in_ok-found.ensures.on workers) port (c.loop-at.invariant.on.each workers port is);
      };
    }
