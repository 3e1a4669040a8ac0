use Rattle.std.proofs.Common.{◌≡◌, length}
use Rattle.std.specs.Prelude.{All}
use Rattle.script_lines.specs.Limits.{IsAsk}
use Rattle.plane.specs.Planes.{places_of}
use Rattle.port_scripts.specs.Words.{AreWords}
use Rattle.live_passes.specs.Numbered.{StaysPort}
use Rattle.live_work.specs.Looking.{heard_by}
use Rattle.live_work.specs.Minds.{IsMind}
use Rattle.live_work.specs.Pooling.{LeavesAnswers}
use Rattle.live_work.proofs.pooling.send_answers.Given as goal

abbrev pub invariant-loop-asks : goal.invariant-loop-asks
invariant-loop-asks g l = record {
  fit : All (All IsAsk) l.left;
  words : All AreWords l.left;
  stays : StaysPort l.stage.plane.now l.initial.pass l.pass;
  heard : heard_by l.pass ≡ heard_by l.initial.pass;
  mind : IsMind l.stage.script.now l.pass l.mind;
  sent : LeavesAnswers l.stage.script.now (places_of l.stage.plane.now) l.fn.answers l.left
      l.initial.pass l.pass;
}

abbrev pub decreases-loop-asks : goal.decreases-loop-asks
decreases-loop-asks g l = length l.left
