-- A whole log is walked.
use Rattle.std.proofs.Common.{◌≡◌, ◌∙◌, ℕ, ◌<◌, ◌^◌, List, [], ◌∷◌, refl, sym, ap, subst, inl}
use Rattle.std.specs.Prelude.{map}
use Rattle.histories.specs.declared.log.Did.{Did}
use Rattle.histories.specs.declared.log.Did.TheVariants.{Received, Sent, Closed}
use Rattle.inspector_script.specs.Scripts.{IsScript, ScriptValue, opening, closing}
use Rattle.run_parts.specs.Log.{Note, IsLog, all_due, start, unanswered, logged}
use Rattle.run_parts.specs.Order.{kinds_from}
use Rattle.log_audit.specs.Telling.{AreKnown}
use Rattle.log_audit.specs.Walking.{Known, Walk, AllGoOn, walked_all, walked, beginning}
use Rattle.log_audit.specs.Walking.{kinds_at, IsDone}
use Rattle.std.proofs.Common.{true, false}
use Rattle.port_audit.specs.AskLengths.{closing_asks}
use Rattle.log_audit.proofs.WalkCompleteness.{GoesSo, along}
use Rattle.log_audit.proofs.Evenness.{Laws, all_even}

module _ (known : Known) (script : ScriptValue) (place port : ℕ) where
  -- answers are of no matter
  walked_unanswered : (w : Walk) (dids : List Did) →
      walked_all known script place port w (map unanswered dids)
      ≡ walked_all known script place port w dids
  walked_unanswered w [] = refl
  walked_unanswered w (Received queue number visit ∷ ds) =
      walked_unanswered (walked known script place port w (Received queue number visit)) ds
  walked_unanswered w (Sent call ask answer ∷ ds) =
      walked_unanswered (walked known script place port w (Sent call ask answer)) ds
  walked_unanswered w (Closed ∷ ds) =
      walked_unanswered (walked known script place port w Closed) ds

  go_answered : (w : Walk) (dids : List Did) →
      AllGoOn known script place port w (map unanswered dids) →
      AllGoOn known script place port w dids
  go_answered w [] go = tt
  go_answered w (Received queue number visit ∷ ds) go =
      (go.0, go_answered (walked known script place port w (Received queue number visit)) ds go.1)
  go_answered w (Sent call ask answer ∷ ds) go =
      (go.0, go_answered (walked known script place port w (Sent call ask answer)) ds go.1)
  go_answered w (Closed ∷ ds) go =
      (go.0, go_answered (walked known script place port w Closed) ds go.1)

  go_unanswered : (w : Walk) (dids : List Did) → AllGoOn known script place port w dids →
      AllGoOn known script place port w (map unanswered dids)
  go_unanswered w [] go = tt
  go_unanswered w (Received queue number visit ∷ ds) go =
      (go.0, go_unanswered (walked known script place port w (Received queue number visit)) ds go.1)
  go_unanswered w (Sent call ask answer ∷ ds) go =
      (go.0, go_unanswered (walked known script place port w (Sent call ask answer)) ds go.1)
  go_unanswered w (Closed ∷ ds) go =
      (go.0, go_unanswered (walked known script place port w Closed) ds go.1)

  pub goes_whole : Laws → (dids : List Did) (notes : List Note) → port < 2 ^ 32 →
      IsScript script → IsLog 1 script place port notes dids →
      AreKnown known notes →
      GoesSo known script place port (beginning script place) dids
      (λ queue. kinds_from 1 script place queue port (start script place) notes)
  goes_whole laws dids notes port_fits is log are =
      let w = beginning script place in
      let so = along known script place port notes [] (all_due (opening script place)) []
      (all_due (closing script place)) true false (all_due (opening script place))
      (all_due (closing script place)) []
      (record {
        owing = refl;
        ending = inl (λ n f. refl);
        even = all_even laws port (closing script place) port_fits
            (closing_asks script is place);
      }) log.next log.owed log.ended are in
      record {
        goes = go_answered w dids
            (subst (AllGoOn known script place port w) (sym log.noted)
            (go_unanswered w (logged port notes) so.goes));
        done = subst (IsDone port) (ends dids notes log) so.done;
        at = λ queue. ap (λ v. kinds_at queue v.timed) (sym (ends dids notes log)) ∙ so.at queue;
      }
    where
      ends : (dids : List Did) (notes : List Note) → IsLog 1 script place port notes dids →
          walked_all known script place port (beginning script place) (logged port notes)
          ≡ walked_all known script place port (beginning script place) dids
      ends dids notes log =
          sym (walked_unanswered (beginning script place) (logged port notes))
          ∙ ap (walked_all known script place port (beginning script place)) (sym log.noted)
          ∙ walked_unanswered (beginning script place) dids
