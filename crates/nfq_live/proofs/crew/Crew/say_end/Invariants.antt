use Rattle.std.specs.Prelude.{All}
use Rattle.script_lines.specs.Limits.{IsAsk}
use Rattle.plane.specs.Planes.{places_of}
use Rattle.nfq_live.specs.Crews.{AreReceived, HaveMinds, IsCrewOf, PortsAlone}
use Rattle.nfq_live.specs.Endings.{SaysEndTo}
use Rattle.port_scripts.specs.Words.{ClosesLast}
use Rattle.nfq_live.proofs.crew.Crew.say_end.Given as goal

abbrev pub invariant-loop-ask : goal.invariant-loop-ask
invariant-loop-ask g l = record {
  fit : All IsAsk l.ask-iterator;
  last : ClosesLast l.ask-iterator;
  crew : IsCrewOf l.stage.plane.now l.self;
  minds : HaveMinds l.stage.script.now l.self;
  alone : PortsAlone l.initial.self l.self;
  received : AreReceived l.stage.script.now.ports (places_of l.stage.plane.now) l.self;
  said : SaysEndTo l.stage.script.now (places_of l.stage.plane.now) l.place l.fn.asks l.ask-iterator
      l.initial.self
      l.self;
}
