use Rattle.std.proofs.Common.{◌-◌, ◌≤◌, length}
use Rattle.run_parts.specs.Datagrams.{cut_in}
use Rattle.plane.specs.Planes.{places_of}
use Rattle.nfq_live.specs.Crews.{AreReceived, HaveMinds, IsCrewOf, PortsAlone}
use Rattle.nfq_live.specs.Endings.{CutsEndTo}
use Rattle.nfq_live.proofs.crew.Crew.send_and_empty.Given as goal

abbrev pub invariant-loop-look : goal.invariant-loop-look
invariant-loop-look g l = record {
  shorter : length l.rest ≤ length l.datagram;
  crew : IsCrewOf l.stage.plane.now l.self;
  minds : HaveMinds l.stage.script.now l.self;
  alone : PortsAlone l.initial.self l.self;
  received : AreReceived l.stage.script.now.ports (places_of l.stage.plane.now) l.self;
  sent : CutsEndTo l.stage.script.now (places_of l.stage.plane.now) l.place l.datagram
      (cut_in (l._look-end - l._look) l.rest) l.initial.self l.self;
}
