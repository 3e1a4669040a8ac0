-- With one worker no answers wait; behind a pool they wait in the order of the notices.
use Rattle.std.proofs.Common.{◌≡◌, ℕ, List, [], ◌∷◌, refl, true, false, ap}
use Rattle.packet_entry.specs.declared.letter.Letter.{Letter}
use Rattle.inspector_script.specs.Scripts.{ScriptValue}
use Rattle.nfqa_msgs.specs.NoticeTexts.{told_exactly}
use Rattle.run_parts.specs.Log.{Note, Got, Turned, Begun, Spoke, Shut, Standing, after, having}
use Rattle.run_parts.specs.Log.{all_due, answer_to, IsNext, AreNextFrom, start, standing}
use Rattle.run_parts.specs.Log.{standing_from, other_groups, is_pool}
use Rattle.run_parts.specs.LoggedExamples.{heard, turned}

pub owes_now : (script : ScriptValue) (place port : ℕ) (t : Standing) (l : Letter) →
    after 1 script place port t (Got l)
    ≡ record (having port (Got l) t) {
      owed = all_due (answer_to script place (having port (Got l) t).dids (told_exactly l.bytes));
    }
owes_now script place port t l = refl

pub never_turns : (t : Standing) → IsNext 1 t Turned → ⊥
never_turns t is = let wrong : false ≡ true = is.0 in cc

module _ (script : ScriptValue) (place port : ℕ) where
  none_waits : (t : Standing) (n : Note) → t.pending ≡ [] →
      (after 1 script place port t n).pending ≡ []
  none_waits t (Got l) none = none
  none_waits t Turned none = ap other_groups none
  none_waits t Begun none = none
  none_waits t (Spoke call m errno) none = none
  none_waits t Shut none = none

  pub none_waits_from : (t : Standing) (ns : List Note) → t.pending ≡ [] →
      (standing_from 1 script place port t ns).pending ≡ []
  none_waits_from t [] none = none
  none_waits_from t (n ∷ ns) none =
      none_waits_from (after 1 script place port t n) ns (none_waits t n none)

pub nothing_waits : (script : ScriptValue) (place port : ℕ) (notes : List Note) →
    AreNextFrom 1 script place port (start script place) notes →
    (standing 1 script place port notes).pending ≡ []
nothing_waits script place port notes next =
    none_waits_from script place port (start script place) notes refl

module _ (workers : ℕ) (script : ScriptValue) (place port : ℕ) (t : Standing) (one two : Letter)
    (pool : is_pool workers ≡ true) where
  pub first_group_first :
      (turned workers script place port (heard workers script place port t one two)).owed
      ≡ all_due (answer_to script place (having port (Got one) t).dids (told_exactly one.bytes))
  first_group_first = rw pool refl

  pub second_group_second :
      (turned workers script place port
      (turned workers script place port (heard workers script place port t one two))).owed
      ≡ all_due (answer_to script place (having port (Got two) (having port (Got one) t)).dids
      (told_exactly two.bytes))
  second_group_second = rw pool refl
