-- Parts in their order, up to the first that doesn't hold.
use Rattle.std.proofs.Common.{◌≡◌, ◌≤◌, ℕ, List, Some, None, Bool, false, subst, arith}
use Rattle.std.specs.Prelude.{slice_get}
use Rattle.histories.specs.declared.histories.Histories.{Histories}
use Rattle.inspector_script.specs.Scripts.{ScriptValue}
use Rattle.run_parts.specs.Log.{Note}
use Rattle.journal_audit.specs.declared.part.Part.{Part}
use Rattle.journal_audit.specs.Given.{IsSaid}
use Rattle.journal_audit.specs.Parts.{every_part, HoldBefore, HoldUpTo, IsFirstWrong}
use Rattle.journal_audit.specs.Parts.{IsMakersAnswer}

module _ (script : ScriptValue) (frames : ℕ) (h : Histories) (notes : ℕ → List Note) where
  -- behind parts that hold comes one of which is said that it doesn't
  pub first_here : (place : ℕ) (part : Part) (answer : Bool) → answer ≡ false →
      slice_get every_part place ≡ Some part → HoldUpTo script frames h notes place →
      (HoldBefore script frames h notes part → IsSaid script frames h notes part answer) →
      IsFirstWrong script frames h part
  first_here place part answer denied is hold said =
      let before : HoldBefore script frames h notes part =
      record { place = place; is = is; hold = hold } in
      record {
        notes = notes;
        before = before;
        fails = subst (IsSaid script frames h notes part) denied (said before);
      }

  -- all parts hold, and make a run
  pub all_hold : (place : ℕ) → 8 ≤ place → HoldUpTo script frames h notes place →
      IsMakersAnswer script frames h None
  all_hold place all hold = (
    notes,
    record {
      log = (hold 0 (omega (arith, all))).logs;
      requests = hold 1 (omega (arith, all));
      notices = hold 2 (omega (arith, all));
      closing = hold 3 (omega (arith, all));
      feeder = hold 4 (omega (arith, all));
      ports = hold 5 (omega (arith, all));
      order = hold 6 (omega (arith, all));
      room = hold 7 (omega (arith, all));
    },
  )
