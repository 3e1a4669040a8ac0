use Rattle.std.proofs.Common.{◌≡◌}
use Rattle.std.specs.Prelude.{All, length}
use Rattle.script_lines.specs.Limits.{IsAsk}
use Rattle.plane.specs.Planes.{places_of}
use Rattle.live_passes.specs.Views.{port_pass}
use Rattle.live_work.specs.Minds.{HearsNothing}
use Rattle.live_passes.specs.Numbered.{StaysPort}
use Rattle.live_work.specs.Sending.{SaysTo}
use Rattle.port_scripts.specs.Words.{AreWords}
use Rattle.live_work.proofs.sending.say_all.Given as goal

abbrev pub invariant-loop-ask : goal.invariant-loop-ask
invariant-loop-ask g l = record {
  fit : All IsAsk l.left;
  words : AreWords l.left;
  stays : StaysPort l.stage.plane.now l.initial.pass l.pass;
  hears : HearsNothing l.initial.pass l.pass;
  machine : l.mind.machine ≡ l.initial.mind.machine;
  received : l.mind.received ≡ l.initial.mind.received;
  sent : SaysTo l.stage.script.now (places_of l.stage.plane.now) l.initial.pass.port l.fn.asks
      l.left
      (port_pass l.initial.pass) (port_pass l.pass);
}

abbrev pub decreases-loop-ask : goal.decreases-loop-ask
decreases-loop-ask g l = length l.left
