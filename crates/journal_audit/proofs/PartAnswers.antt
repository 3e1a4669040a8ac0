-- What is said of each part, where those before it hold.
use Rattle.std.proofs.Common.{◌≡◌, ℕ, zero, suc, List, [], Some, Bool, true, false, Result, Ok, Err}
use Rattle.std.proofs.Common.{refl, subst, sym, arith}
use Rattle.std.specs.Prelude.{◌↔◌, IfOk, IsTrue, slice_get}
use Rattle.histories.specs.declared.histories.Histories.{Histories}
use Rattle.inspector_script.specs.Scripts.{ScriptValue}
use Rattle.run_parts.specs.Log.{Note}
use Rattle.run_parts.specs.Run.{OrderHolds}
use Rattle.port_audit.specs.declared.dealing.MessageKind.{MessageKind}
use Rattle.port_audit.specs.Dealing.{RowMap}
use Rattle.port_audit.specs.Kinds.{AreKinds}
use Rattle.port_audit.specs.Makers.{HaveLogs}
use Rattle.port_audit.specs.Noticing.{ArriveOnce}
use Rattle.port_audit.specs.Pleading.{HaveErrnos}
use Rattle.log_audit.specs.Judged.{AreJudged}
use Rattle.journal_audit.specs.declared.makers.Walked.{Walked}
use Rattle.journal_audit.specs.declared.part.Part.{Part}
use Rattle.journal_audit.specs.declared.part.Part.TheVariants.{Logs}
use Rattle.journal_audit.specs.Given.{AreGiven, IsSaid}
use Rattle.journal_audit.specs.Parts.{every_part, HoldBefore, Holds, HoldUpTo}

-- what is exact is so of whatever errnos
pub exact : {A B X : Type 0} → A ↔ B → (A → X → B) × (B → A)
exact both = (λ a x. both.0 a, both.1)

-- ---- what a walk over the logs found

-- what is known where the logs are what the script says, and the part on order was judged
pub given_said : (script : ScriptValue) (h : Histories) (rows : RowMap MessageKind) →
    ArriveOnce h.entries → (judged : AreJudged script h rows) → (order : Bool) →
    ((ns : ℕ → List Note) → AreKinds script ns rows →
    (IsTrue order ↔ OrderHolds 1 script h ns)) →
    (notes : ℕ → List Note) × AreGiven script h (record { logs = true; order = order }) notes
given_said script h rows once judged order is = (
  judged.notes,
  record {
    logs = judged.told.logs;
    errnos = λ logs. judged.told.errnos;
    order = λ ns logs. is ns (judged.kinds ns logs);
    once = once;
  },
)

-- and where they aren't
pub given_amiss : (script : ScriptValue) (h : Histories) → ArriveOnce h.entries →
    ((ns : ℕ → List Note) → HaveLogs script h ns → ⊥) →
    (notes : ℕ → List Note) × AreGiven script h (record { logs = false; order = false }) notes
given_amiss script h once none = (
  λ port. [],
  record {
    logs = none;
    errnos = λ logs. absurd (none (λ port. []) logs);
    order = λ ns logs. absurd (none ns logs);
    once = once;
  },
)

-- ---- the parts

module _ (script : ScriptValue) (frames : ℕ) (h : Histories) (walked : Walked) where
  -- the logs are the first part, so they hold where the parts before another one do
  logs_before : (notes : ℕ → List Note) (part : Part) → (Logs ≡ part → ⊥) →
      HoldBefore script frames h notes part → HaveLogs script h notes
  logs_before notes part other before = by before.place before.is before.hold
    where
      by : (place : ℕ) → slice_get every_part place ≡ Some part →
          HoldUpTo script frames h notes place → HaveLogs script h notes
      by zero is hold = absurd (other (let same : Some Logs ≡ Some part = is in cc))
      by (suc k) is hold = hold 0 (omega arith)

  -- this answer is right of a part, however the logs are told; a yes where errnos are the answers'
  abbrev pub IsRight : Part → Bool → Type 0
  IsRight part answer =
      ArriveOnce h.entries → (ns : ℕ → List Note) → HaveLogs script h ns →
      (IsTrue answer → HaveErrnos script h ns → Holds script frames h ns part)
      × (Holds script frames h ns part → IsTrue answer)

  -- what is said of the part, whatever notes are given
  abbrev pub Says : Part → Bool → Type 0
  Says part answer =
      (notes : ℕ → List Note) → AreGiven script h walked notes →
      HoldBefore script frames h notes part → IsSaid script frames h notes part answer

  -- a right answer says it
  pub says : (part : Part) → (Logs ≡ part → ⊥) → (answer : Bool) → IsRight part answer →
      Says part answer
  says part other true right notes given before =
      let logs = logs_before notes part other before in
      (right given.once notes logs).0 refl (given.errnos logs)
  says part other false right notes given before =
      λ ns earlier holds.
      let wrong : false ≡ true =
      (right given.once ns (logs_before ns part other earlier)).1 holds in cc

  -- the same of what the judge of a part answers, by its contract
  pub judged : (part own : Part) → part ≡ own → (Logs ≡ own → ⊥) → {E : Type 0}
      {Promise : Bool → Type 0} (r : Result Bool E) → IfOk r Promise →
      ((answer : Bool) → Promise answer → IsRight own answer) → IfOk r (Says part)
  judged part own is other {E} {Promise} (Ok answer) promised right =
      subst (λ p. Says p answer) (sym is) (says own other answer (right answer promised))
  judged part own is other {E} {Promise} (Err e) promised right = tt
