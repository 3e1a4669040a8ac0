-- A crew whose open ports' passes took seats, worked there, and went back.
use Rattle.std.proofs.Common.{◌≡◌, ℕ, List, false}
use Rattle.std.specs.Prelude.{All}
use Rattle.std.specs.List.{AllZip}
use Rattle.pcap_io.specs.declared.capture.Capture.{Capture}
use Rattle.inspector_script.specs.Scripts.{ScriptValue}
use Rattle.plane.specs.declared.plane.Plane.{Plane}
use Rattle.plane.specs.Planes.{places_of}
use Rattle.nfq_live.specs.declared.crew.Crew.{Crew}
use Rattle.nfq_live.specs.declared.workers.Inspector.{Inspector}
use Rattle.nfq_live.specs.Crews.{HaveMinds, IsCrewOf}
use Rattle.nfq_live.specs.Feeders.{HaveFedAll}
use Rattle.nfq_live.specs.Workers.{HaveWorked, IsInspected, minds_at, passes_at}
use Rattle.nfq_live.proofs.AllPasses.{WholeLaw}
use Rattle.nfq_live.proofs.SamePasses.{crew_stays}
use Rattle.nfq_live.proofs.WorkerSeats.{minds_from_seats, stay_at_seats, went_at_seats}

-- the seats as they were taken and as they were left
pub record HaveSat (workers feeders : ℕ) (script : ScriptValue) (capture : Capture)
    (plane : Plane) (old new : Crew) (before after : List Inspector) : Type 0 where
  pub taken : passes_at before ≡ old.ports.items
  pub each : AllZip (IsInspected workers script plane) before after
  pub back : passes_at after ≡ new.ports.items
  pub minds : minds_at after ≡ new.minds.items
  pub fed : HaveFedAll feeders script capture plane old.feeding new.feeding
  pub closed : new.closed.items ≡ old.closed.items

module _ (workers feeders : ℕ) (script : ScriptValue) (capture : Capture) (plane : Plane)
    (old new : Crew) (before after : List Inspector)
    (sat : HaveSat workers feeders script capture plane old new before after) where
  pub crew_after : WholeLaw → IsCrewOf plane old → IsCrewOf plane new
  crew_after law crew =
      crew_stays law plane old new sat.fed.stays (record { looks = sat.fed.looks.looks })
      (stay_at_seats workers script plane before after old.ports.items new.ports.items sat.taken
      sat.back sat.each) sat.closed crew

  pub minds_after : All (λ (i : Inspector). i.failed ≡ false) after → HaveMinds script new
  minds_after well =
      minds_from_seats workers script plane before after new.ports.items new.minds.items sat.back
      sat.minds sat.each well

  pub worked_after : All (λ (i : Inspector). i.failed ≡ false) after →
      new.feeding.failed ≡ false →
      HaveWorked workers feeders script capture (places_of plane) old new
  worked_after well fed_well = record {
    went_on = went_at_seats workers script plane before after old.ports.items new.ports.items
        sat.taken sat.back sat.each well;
    fed = sat.fed.on fed_well;
    closed = sat.closed;
  }
