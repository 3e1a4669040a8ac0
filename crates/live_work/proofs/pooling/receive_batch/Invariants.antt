use Rattle.std.proofs.Common.{◌≡◌, ◌≤◌, ◌+◌, false, length}
use Rattle.std.specs.Prelude.{All}
use Rattle.inspector_pool.specs.Answers.{answers}
use Rattle.inspector_script.specs.Scripts.{count_after}
use Rattle.plane.specs.Planes.{places_of}
use Rattle.port_scripts.specs.Words.{AreWords}
use Rattle.live_passes.specs.Numbered.{StaysPort}
use Rattle.live_work.specs.Looking.{heard_by}
use Rattle.live_work.specs.Minds.{IsMind}
use Rattle.live_work.specs.Pooling.{HasReceived}
use Rattle.live_work.proofs.pooling.receive_batch.Given as goal

abbrev pub invariant-loop-received : goal.invariant-loop-received
invariant-loop-received g l = record {
  stays : StaysPort l.stage.plane.now l.initial.pass l.pass;
  mind : IsMind l.stage.script.now l.pass l.mind;
  few : length l.notices ≤ l.received;
  counted : l.mind.machine.received
      ≡ count_after l.initial.mind.machine.received (length l.notices);
  heard : heard_by l.pass ≡ heard_by l.initial.pass + length l.notices;
  words : All AreWords (answers l.stage.script.now l.initial.mind.machine.place
      l.initial.mind.machine.received l.notices);
  received : HasReceived l.stage.script.now (places_of l.stage.plane.now) l.initial.mind.machine
      l.notices false
      l.initial.pass l.pass;
}
