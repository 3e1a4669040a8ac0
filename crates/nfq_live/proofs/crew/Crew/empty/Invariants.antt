use Rattle.plane.specs.Planes.{places_of}
use Rattle.nfq_live.specs.Crews.{AllLookOn, HaveMinds, IsCrewOf}
use Rattle.nfq_live.proofs.crew.Crew.empty.Given as goal

abbrev pub invariant-loop : goal.invariant-loop
invariant-loop g l = record {
  crew : IsCrewOf l.stage.plane.now l.self;
  minds : HaveMinds l.stage.script.now l.self;
  on : AllLookOn l.stage.script.now (places_of l.stage.plane.now) l.initial.self l.self;
}
