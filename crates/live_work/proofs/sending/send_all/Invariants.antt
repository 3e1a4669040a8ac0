use Rattle.std.proofs.Common.{◌-◌, ◌≤◌, length}
use Rattle.run_parts.specs.Datagrams.{cut_in}
use Rattle.plane.specs.Planes.{places_of}
use Rattle.live_passes.specs.Views.{port_pass}
use Rattle.live_work.specs.Minds.{HearsNothing}
use Rattle.live_passes.specs.Numbered.{StaysPort}
use Rattle.live_work.specs.Sending.{HasCutTo}
use Rattle.live_work.proofs.sending.send_all.Given as goal

abbrev pub invariant-loop-look : goal.invariant-loop-look
invariant-loop-look g l = record {
  shorter : length l.rest ≤ length l.datagram;
  stays : StaysPort l.stage.plane.now l.initial.pass l.pass;
  hears : HearsNothing l.initial.pass l.pass;
  sent : HasCutTo l.stage.script.now (places_of l.stage.plane.now) l.initial.pass.port l.datagram
      (cut_in (l._look-end - l._look) l.rest) (port_pass l.initial.pass) (port_pass l.pass);
}
