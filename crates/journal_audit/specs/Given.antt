-- For proofs: what is known of a part when it is judged, and what is said of it.
use Rattle.std.specs.Prelude.{◌↔◌, ℕ, List, Bool, true, false, IsTrue, MatchBool}
use Rattle.histories.specs.declared.histories.Histories.{Histories}
use Rattle.inspector_script.specs.Scripts.{ScriptValue}
use Rattle.run_parts.specs.Log.{Note}
use Rattle.run_parts.specs.Run.{OrderHolds}
use Rattle.port_audit.specs.Makers.{HaveLogs}
use Rattle.port_audit.specs.Noticing.{ArriveOnce}
use Rattle.port_audit.specs.Pleading.{HaveErrnos}
use Rattle.journal_audit.specs.declared.makers.Walked.{Walked}
use Rattle.journal_audit.specs.declared.part.Part.{Part}
use Rattle.journal_audit.specs.Parts.{HoldBefore, Holds}

-- A walk over the logs found that they are what the script says, and then it is told what each port
-- did, with the errnos that its answers tell; or that nothing can be told of them. However they are
-- told, the part on order holds or not as was found. No two arrivals are of one packet at one
-- visit.
pub record AreGiven (script : ScriptValue) (h : Histories) (walked : Walked)
    (notes : ℕ → List Note) : Type 0 where
  pub logs : MatchBool walked.logs (HaveLogs script h notes)
      ((ns : ℕ → List Note) → HaveLogs script h ns → ⊥)
  pub errnos : HaveLogs script h notes → HaveErrnos script h notes
  pub order : (ns : ℕ → List Note) → HaveLogs script h ns →
      (IsTrue walked.order ↔ OrderHolds 1 script h ns)
  pub once : ArriveOnce h.entries

-- What is said of a part, where those before it hold of these notes: it holds of them as well, or
-- it holds of no notes of which those before it hold.
abbrev pub IsSaid : ScriptValue → ℕ → Histories → (ℕ → List Note) → Part → Bool → Type 0
IsSaid script frames h notes part true = Holds script frames h notes part
IsSaid script frames h notes part false =
    (ns : ℕ → List Note) → HoldBefore script frames h ns part →
    Holds script frames h ns part → ⊥
