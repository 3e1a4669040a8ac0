-- A port that owes something has received a notice, once all have opened; before that it received
-- none.
use Rattle.std.proofs.Common.{◌≡◌, ◌⊎◌, ◌∙◌, ℕ, List, [], ◌∷◌, ◌++◌, Bool, true, false, refl, sym}
use Rattle.std.proofs.Common.{ap, subst, inl, inr}
use Rattle.std.specs.Prelude.{◌==◌, if◌then◌else◌}
use Rattle.std.specs.List.{list_any}
use Rattle.std.proofs.lemmas.List.Folds.{list_any-append}
use Rattle.packet_entry.specs.declared.letter.Letter.{Letter}
use Rattle.inspector_script.specs.Scripts.{ScriptValue}
use Rattle.histories.specs.Logs.{is_received}
use Rattle.run_parts.specs.Log.{Note, Got, Turned, Begun, Spoke, Shut}
use Rattle.run_parts.specs.Log.{Due, Standing, after, dids_by, standing}
use Rattle.run_parts.specs.Log.{owed_then, start, messages_of, first_due}
use Rattle.solo_schedule.proofs.RunSteps.{noted, LogLaws, is_in}
use Rattle.solo_schedule.proofs.WholeRun.{or_false, or_true}

abbrev pub has_received : Standing → Bool
has_received t = list_any is_received t.dids

abbrev pub Owes : Bool → Standing → Type 0
Owes true t = (t.owed ≡ []) ⊎ (has_received t ≡ true)
Owes false t = has_received t ≡ false

-- a note that tells of no notice
abbrev pub IsQuiet : Note → Type 0
IsQuiet (Got l) = ⊥
IsQuiet Turned = ⊥
IsQuiet Begun = Unit {0}
IsQuiet (Spoke call m errno) = Unit {0}
IsQuiet Shut = Unit {0}

none_owed : (more owed : List Due) → owed ≡ [] → owed_then more owed ≡ []
none_owed more owed is = ap (owed_then more) is

module _ (script : ScriptValue) (place port : ℕ) where
  quiet_same : (t : Standing) (n : Note) → IsQuiet n →
      has_received (after 1 script place port t n) ≡ has_received t
  quiet_same t (Got l) wrong = absurd wrong
  quiet_same t Turned wrong = absurd wrong
  quiet_same t Begun quiet = refl
  quiet_same t (Spoke call m errno) quiet =
      list_any-append is_received t.dids (dids_by port (Spoke call m errno))
      ∙ or_false (has_received t) false refl
  quiet_same t Shut quiet =
      list_any-append is_received t.dids (dids_by port Shut)
      ∙ or_false (has_received t) false refl

  quiet_none : (t : Standing) (n : Note) → IsQuiet n → t.owed ≡ [] →
      (after 1 script place port t n).owed ≡ []
  quiet_none t (Got l) wrong is = absurd wrong
  quiet_none t Turned wrong is = absurd wrong
  quiet_none t Begun quiet is =
      none_owed (messages_of port t.dids (first_due t.owed t.ends)) t.owed is
  quiet_none t (Spoke call m errno) quiet is = none_owed [] t.owed is
  quiet_none t Shut quiet is = is

  pub quiet_owes : (over : Bool) (t : Standing) (n : Note) → IsQuiet n → Owes over t →
      Owes over (after 1 script place port t n)
  quiet_owes true t n quiet (inl none) = inl (quiet_none t n quiet none)
  quiet_owes true t n quiet (inr some) = inr (quiet_same t n quiet ∙ some)
  quiet_owes false t n quiet is = quiet_same t n quiet ∙ is

  pub got_owes : (t : Standing) (l : Letter) → Owes true (after 1 script place port t (Got l))
  got_owes t l = inr (list_any-append is_received t.dids (dids_by port (Got l))
      ∙ or_true (has_received t))

module _ (script : ScriptValue) (f : ℕ → ℕ) where
  abbrev pub AllOwe : Bool → (ℕ → List Note) → Type 0
  AllOwe over notes =
      (p : ℕ) → is_in script f p ≡ true → Owes over (standing 1 script (f p) p (notes p))

  pub noted_owe : LogLaws → (over : Bool) (notes : ℕ → List Note) (port : ℕ) (n : Note) →
      ((p : ℕ) (t : Standing) → Owes over t → Owes over (after 1 script (f p) p t n)) →
      AllOwe over notes → AllOwe over (noted port n notes)
  noted_owe laws over notes port n goes is p i = by (p == port) (is p i)
    where
      by : (c : Bool) → Owes over (standing 1 script (f p) p (notes p)) →
          Owes over (standing 1 script (f p) p (if c then notes p ++ n ∷ [] else notes p))
      by true so = subst (Owes over)
          (sym (laws.stands script (f p) p (start script (f p)) (notes p) n))
          (goes p (standing 1 script (f p) p (notes p)) so)
      by false so = so
