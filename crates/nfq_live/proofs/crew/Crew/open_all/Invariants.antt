use Rattle.plane.specs.Planes.{places_of}
use Rattle.nfq_live.specs.Crews.{HaveMinds, IsCrewOf}
use Rattle.nfq_live.specs.Openings.{HaveOpened}
use Rattle.nfq_live.proofs.crew.Crew.open_all.Given as goal

abbrev pub invariant-loop-place : goal.invariant-loop-place
invariant-loop-place g l = record {
  crew : IsCrewOf l.stage.plane.now l.self;
  minds : HaveMinds l.stage.script.now l.self;
  opened : HaveOpened l.stage.script.now (places_of l.stage.plane.now) l.place l.self;
}
