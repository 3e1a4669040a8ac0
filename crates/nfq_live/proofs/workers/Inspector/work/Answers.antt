use Rattle.plane.specs.Planes.{places_of}
use Rattle.live_work.specs.Minds.{IsMind}
use Rattle.live_work.specs.Looking.{LooksOn}
use Rattle.live_work.proofs.SentAsks.{went_well}
use Rattle.nfq_live.proofs.workers.Inspector.work.Goals as goal

pub returns : goal.returns
returns g c = record {
  stays = c.inspect_with-outcome.ensures.stays;
  mind = λ well. went_well c.inspect_with-outcome.result _
      (IsMind c.args.run.now.stage.script.now c.inspect_with-outcome.new.pass
      c.inspect_with-outcome.new.mind)
      c.is_err-self.ensures.value well c.inspect_with-outcome.ensures.mind;
  on = λ well. went_well c.inspect_with-outcome.result _
      (LooksOn c.args.run.now.pool.workers c.args.run.now.stage.script.now (places_of
      c.args.run.now.stage.plane.now)
      c.args.self.now.pass c.inspect_with-outcome.new.pass) c.is_err-self.ensures.value well
      c.inspect_with-outcome.ensures.on;
}
