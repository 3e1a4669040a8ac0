use Rattle.std.proofs.Common.{◌≡◌, length}
use Rattle.plane.specs.Planes.{places_of}
use Rattle.nfq_live.specs.Crews.{AllLookOn, HaveMinds, IsCrewOf}
use Rattle.nfq_live.proofs.crew.Crew.round.Given as goal

abbrev pub invariant-loop-at : goal.invariant-loop-at
invariant-loop-at g l = record {
  crew : IsCrewOf l.stage.plane.now l.self;
  minds : HaveMinds l.stage.script.now l.self;
  long : length l.self.ports.items ≡ length l.initial.self.ports.items;
  on : AllLookOn l.stage.script.now (places_of l.stage.plane.now) l.initial.self l.self;
}
