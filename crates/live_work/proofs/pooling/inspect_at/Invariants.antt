use Rattle.plane.specs.Planes.{places_of}
use Rattle.live_passes.specs.Numbered.{StaysPort}
use Rattle.live_work.specs.Looking.{LooksOn}
use Rattle.live_work.specs.Minds.{IsMind}
use Rattle.live_work.proofs.pooling.inspect_at.Given as goal

abbrev pub invariant-loop : goal.invariant-loop
invariant-loop g l = record {
  stays : StaysPort l.stage.plane.now l.initial.pass l.pass;
  mind : IsMind l.stage.script.now l.pass l.mind;
  on : LooksOn l.pool.workers l.stage.script.now (places_of l.stage.plane.now) l.initial.pass
      l.pass;
}
