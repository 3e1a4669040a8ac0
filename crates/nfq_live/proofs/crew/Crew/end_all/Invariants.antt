use Rattle.std.proofs.Common.{◌≡◌, ◌<◌}
use Rattle.inspector_script.specs.Scripts.{closing}
use Rattle.plane.specs.Planes.{places_of}
use Rattle.nfq_live.specs.Crews.{AreOpenFrom, AreReceived, HaveMinds, IsCrewOf}
use Rattle.nfq_live.specs.Endings.{EndsTo, IsAtMeeting}
use Rattle.nfq_live.specs.Sizes.{Size}
use Rattle.nfq_live.proofs.crew.Crew.end_all.Given as goal

abbrev pub invariant-loop-place : goal.invariant-loop-place
invariant-loop-place g l = record {
  crew : IsCrewOf l.stage.plane.now l.self;
  minds : HaveMinds l.stage.script.now l.self;
  are_open : AreOpenFrom l.stage.script.now l.place l.self;
  received : AreReceived l.stage.script.now.ports (places_of l.stage.plane.now) l.self;
  fed : l.self.feeding.pass.fed ≡ l.fn.self.feeding.pass.fed;
  ends : (size : Size) → IsAtMeeting l.stage.script.now (places_of l.stage.plane.now) size 0
      l.fn.self →
      EndsTo l.stage.script.now (places_of l.stage.plane.now) size l.place (closing
      l.stage.script.now l.place) l.self;
  met : (size : Size) → IsAtMeeting l.stage.script.now (places_of l.stage.plane.now) size 0
      l.fn.self →
      0 < l.place → IsAtMeeting l.stage.script.now (places_of l.stage.plane.now) size l.place
      l.self;
}
