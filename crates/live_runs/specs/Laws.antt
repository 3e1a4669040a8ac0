-- Laws that proofs above rest on, each the clause of a function of src/.
use Rattle.std.specs.Prelude.{◌≡◌, ◌<◌, ◌==◌, ℕ, suc, true, false, List, [], length}
use Rattle.std.specs.Prelude.{if◌then◌else◌}
use Rattle.histories.specs.declared.histories.Histories.{Histories}
use Rattle.inspector_script.specs.Scripts.{IsScript, ScriptValue}
use Rattle.run_parts.specs.Feeder.{downs_in_effect}
use Rattle.run_parts.specs.Log.{Note}
use Rattle.run_parts.specs.Ports.{is_port, place_in}
use Rattle.run_parts.specs.Run.{IsMadeBy}
use Rattle.live_runs.specs.ClosedPlanes.{IsClosedPlane, sent_by_all}
use Rattle.live_runs.specs.Doing.{IsDoing}
use Rattle.live_runs.specs.Meetings.{IsMeeting, IsOpenTo}
use Rattle.live_runs.specs.Owners.{IsFedByAll}
use Rattle.live_runs.specs.Passes.{AreMet, Pass, feeder_number, seen_at, with_pass}
use Rattle.live_runs.specs.Ports.{IsPort}
use Rattle.live_runs.specs.Stages.{Follows, Opening, Stage, Went, WentFeeding}
use Rattle.live_runs.specs.Stands.{IsDone, Stand, opened}

-- Where the ports before this one have opened, it has done its opening, and all passes meet, it has
-- opened, too.
abbrev pub OpensNext : Type 0
OpensNext = (workers : ℕ) (script : ScriptValue) (places port : ℕ) (old new : ℕ → Pass)
    (notes : ℕ → List Note) (stands : ℕ → Stand) (mine : Pass) → 0 < places →
    IsScript script → is_port script port ≡ true →
    IsOpenTo workers script places (place_in port script.ports) old notes stands →
    (a : IsDoing workers script places (Opening (place_in port script.ports)) port
    (notes port) (old port) (opened script port) mine) →
    AreMet script.ports (with_pass port mine old) new →
    IsOpenTo workers script places (suc (place_in port script.ports)) new
    (λ p. if p == port then a.notes else notes p)
    (λ p. if p == port then opened script port else stands p)

-- Where all passes met before, each port's has done what is of the stage, the feeder's has fed, and
-- all meet again, that is a meeting of the stage.
abbrev pub EndsStage : Type 0
EndsStage = (workers : ℕ) (script : ScriptValue) (places : ℕ) (before stage : Stage)
    (old mid new : ℕ → Pass) (was now : ℕ → List Note) (stood stands : ℕ → Stand) →
    0 < places → Follows script.ports before stage →
    IsMeeting workers script places before old was stood →
    ((p : ℕ) → is_port script p ≡ true →
    IsPort workers script places p (now p) (stands p) (mid p)) →
    ((p : ℕ) → is_port script p ≡ true →
    Went workers script stage p (was p) (now p) (old p).shares (mid p).shares) →
    ((p : ℕ) → is_port script p ≡ false → now p ≡ []) →
    WentFeeding script stage (old feeder_number).shares (mid feeder_number).shares →
    AreMet script.ports mid new → IsMeeting workers script places stage new now stands

-- The histories of a closed plane are made by the script, where its passes met at last, each port
-- has done all that it had to, so many feeders fed each place, and each port received as many
-- notices as all passes sent to it.
abbrev pub MakesHistories : Type 0
MakesHistories = (workers feeders : ℕ) (script : ScriptValue) (places frames : ℕ)
    (stage : Stage) (passes : ℕ → Pass) (h : Histories) (notes : ℕ → List Note)
    (stands : ℕ → Stand) → 0 < places →
    IsClosedPlane script.ports script.mail places passes h →
    IsMeeting workers script places stage passes notes stands →
    ((port : ℕ) → is_port script port ≡ true → IsDone (stands port)) →
    ((k : ℕ) → k < places → IsFedByAll feeders (downs_in_effect script frames)
    (seen_at passes k feeder_number)) →
    ((port : ℕ) → is_port script port ≡ true →
    sent_by_all script.ports places passes port ≡ length (passes port).letters) →
    IsMadeBy workers feeders script frames h notes (λ port. [])
