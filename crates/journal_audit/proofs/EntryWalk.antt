-- Histories that are watched entry by entry.
use Rattle.std.proofs.Common.{◌≡◌, ℕ, List, [], ◌∷◌, ◌++◌, Option, None, Bool, refl, sym, subst}
use Rattle.std.specs.Prelude.{◌↔◌, IsTrue}
use Rattle.std.specs.BTreeMap.{get}
use Rattle.std.specs.Ordering.{nat_cmp}
use Rattle.histories.specs.declared.entry.Entry.{Entry}
use Rattle.histories.specs.History.{history, replay, IsStep}
use Rattle.histories.specs.NumberKeys.{not_of, each_number}
use Rattle.histories.specs.QueueHistories.{own_last, others_last}
use Rattle.journal_audit.specs.declared.first_illegal.Place1.{Place1}
use Rattle.journal_audit.specs.Illegal.{IsFirstOf, sooner}
use Rattle.journal_audit.specs.Watching.{WatchedQueues, Watches, AreWatched, IsWatchedIn, IsFound}
use Rattle.journal_audit.proofs.Beginnings.{first_on}

-- the entries before are watched
pub record AreWatching (queues : WatchedQueues) (first : Option Place1)
    (before rest : List Entry) : Type 0 where
  pub watched : AreWatched before queues
  pub first_is : IsFirstOf before first

-- nothing is watched yet
pub none_watched : (entries : List Entry) (queues : WatchedQueues) →
    ((queue : ℕ) → get nat_cmp queues queue ≡ None) → AreWatching queues None [] entries
none_watched entries queues none = record {
  watched = λ queue. subst (IsWatchedIn []) (sym (none queue)) refl;
  first_is = λ queue. tt;
}

module _ (before rest : List Entry) (e : Entry) (is_step : Bool)
    (one : IsTrue is_step ↔ IsStep (replay (history e.queue before)) e) where
  watched_on : (old new : WatchedQueues) → AreWatched before old → Watches is_step old new e →
      AreWatched (before ++ e ∷ []) new
  watched_on old new are watches =
      each_number (λ q. IsWatchedIn (history q (before ++ e ∷ [])) (get nat_cmp new q)) e.queue
      (subst (λ h. IsWatchedIn h (get nat_cmp new e.queue)) (sym (own_last before e))
      (watches.own (history e.queue before) one (are e.queue)))
      (λ q other. subst (λ h. IsWatchedIn h (get nat_cmp new q))
      (sym (others_last before e q (not_of e.queue q other)))
      (subst (IsWatchedIn (history q before)) (sym (watches.others q other)) (are q)))

  pub watching_on : (others : List Entry) (old new : WatchedQueues) (first last : Option Place1)
      (at : Option ℕ) → AreWatching old first before rest → Watches is_step old new e →
      ((so_far : List Entry) → IsTrue is_step ↔ IsStep (replay so_far) e →
      IsWatchedIn so_far (get nat_cmp old e.queue) → IsFound so_far e at) →
      last ≡ sooner first e.queue at → AreWatching new last (before ++ e ∷ []) others
  watching_on others old new first last at are watches finds is = record {
    watched = watched_on old new are.watched watches;
    first_is = subst (IsFirstOf (before ++ e ∷ [])) (sym is)
        (first_on before e first at are.first_is
        (finds (history e.queue before) one (are.watched e.queue)));
  }
