-- Entries that are replayed, and what is found at them.
use Rattle.std.proofs.Common.{◌≡◌, List, [], ◌∷◌, ◌++◌, Option, sym, ap, ◌∙◌, subst}
use Rattle.std.proofs.Common.{append_assoc, append-nil}
use Rattle.std.specs.BTreeMap.{get}
use Rattle.std.specs.Ordering.{nat_cmp}
use Rattle.queue_core.specs.State.{Bound}
use Rattle.queue_core.specs.Step.{step}
use Rattle.histories.specs.declared.entry.Entry.{Entry}
use Rattle.histories.specs.History.{history, replay}
use Rattle.queue_replay.specs.declared.found.Found.{Found}
use Rattle.queue_replay.specs.declared.replayed.Replayed.{Replayed}
use Rattle.queue_replay.specs.Departed.{Adds}
use Rattle.queue_replay.specs.Replays.{QueueMap, queue_in, Replays, AreReplayed, IsFound, AreFound}
use Rattle.queue_replay.specs.Replays.{IsReplayOf}
use Rattle.histories.specs.NumberKeys.{not_of, each_number}
use Rattle.histories.specs.QueueHistories.{others_last, state_last}
use Rattle.queue_replay.proofs.Parts.{departed_on}

replayed_on : (before : List Entry) (old new : QueueMap) (e : Entry) →
    AreReplayed before old → Replays old new e → AreReplayed (before ++ e ∷ []) new
replayed_on before old new e are replays =
    each_number
    (λ q. queue_in (get nat_cmp new q) ≡ replay (history q (before ++ e ∷ []))) e.queue
    (replays.own ∙ ap (λ (q : Option Bound). (step q e.event).state) (are e.queue)
    ∙ sym (state_last before e))
    (λ q other. ap queue_in (replays.others q other) ∙ are q
    ∙ sym (ap replay (others_last before e q (not_of e.queue q other))))

found_on : (before es : List Entry) (fs : List Found) (e : Entry) (f : Found) →
    AreFound before es fs → IsFound (replay (history e.queue (before ++ es))) e f →
    AreFound before (es ++ e ∷ []) (fs ++ f ∷ [])
found_on before [] [] e f are is =
    (subst (λ bs. IsFound (replay (history e.queue bs)) e f) (append-nil before) is, tt)
found_on before [] (g ∷ fs) e f are is = absurd are
found_on before (d ∷ es) [] e f are is = absurd are
found_on before (d ∷ es) (g ∷ fs) e f are is = (
  are.0,
  found_on (before ++ d ∷ []) es fs e f are.1
      (subst (λ bs. IsFound (replay (history e.queue bs)) e f)
      (sym (append_assoc before (d ∷ []) es)) is),
)

-- an entry more is replayed
pub replay_goes_on : (before : List Entry) (e : Entry) (f : Found)
    (old new : Replayed) → IsReplayOf before old → Replays old.queues new.queues e →
    Adds old.departed new.departed (queue_in (get nat_cmp old.queues e.queue)) e →
    IsFound (queue_in (get nat_cmp old.queues e.queue)) e f → new.found ≡ old.found ++ f ∷ [] →
    IsReplayOf (before ++ e ∷ []) new
replay_goes_on before e f old new is replays adds here pushed = record {
  found = subst (AreFound [] (before ++ e ∷ [])) (sym pushed)
      (found_on [] before old.found e f is.found
      (subst (λ (q : Option Bound). IsFound q e f) (is.queues e.queue) here));
  departed = departed_on before e old.departed new.departed
      (queue_in (get nat_cmp old.queues e.queue)) (is.queues e.queue) is.departed adds;
  queues = replayed_on before old.queues new.queues e is.queues replays;
}
