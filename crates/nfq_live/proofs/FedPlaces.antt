-- Places that all feeders fed stay so.
use Rattle.std.proofs.Common.{◌++◌, ℕ, List, refl, subst, sym}
use Rattle.histories.specs.declared.entry.Entry.{Entry}
use Rattle.script_lines.specs.declared.line.Down.{Down}
use Rattle.inspector_script.specs.Scripts.{ScriptValue}
use Rattle.live_runs.specs.Owners.{IsFedByAll}
use Rattle.live_runs.specs.Passes.{AreMet, Pass, feeder_number, seen_at}
use Rattle.live_runs.specs.Seen.{Seen, all_theirs}
use Rattle.live_work.specs.Sharing.{AreFedByAll}
use Rattle.nfq_live.specs.declared.crew.Crew.{Crew}
use Rattle.nfq_live.specs.Crews.{passes_of}

abbrev pub FedMeetsLaw : Type 0
FedMeetsLaw = (feeders : ℕ) (downs : List Down) (xs : List Seen) (es : List Entry) →
    IsFedByAll feeders downs xs → IsFedByAll feeders downs (xs ++ all_theirs es)

pub fed_at_meeting : FedMeetsLaw → (script : ScriptValue) (feeders places : ℕ) (downs : List Down)
    (mid new : ℕ → Pass) → AreMet script.ports mid new →
    AreFedByAll feeders places downs (λ k. seen_at mid k feeder_number) →
    AreFedByAll feeders places downs (λ k. seen_at new k feeder_number)
fed_at_meeting law script feeders places downs mid new met fed k here =
    subst (λ (xs : List Seen). IsFedByAll feeders downs xs)
    (sym (met.longer k feeder_number refl))
    (law feeders downs (seen_at mid k feeder_number) (met.rest k feeder_number) (fed k here))

pub fed_still : FedMeetsLaw → (script : ScriptValue) (feeders places : ℕ) (downs : List Down)
    (m n : Crew) → AreMet script.ports (passes_of m) (passes_of n) →
    AreFedByAll feeders places downs (λ k. seen_at (passes_of m) k feeder_number) →
    AreFedByAll feeders places downs (λ k. seen_at (passes_of n) k feeder_number)
fed_still law script feeders places downs m n met was =
    fed_at_meeting law script feeders places downs (passes_of m) (passes_of n) met was
