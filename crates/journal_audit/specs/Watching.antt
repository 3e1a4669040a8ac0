-- Histories that are watched entry by entry.
use Rattle.std.specs.Prelude.{◌≡◌, ℕ, List, [], ◌∷◌, ◌++◌, length, Option, Some, None, true, false}
use Rattle.std.specs.Prelude.{◌↔◌, Bool, IsTrue}
use Rattle.std.specs.BTreeMap.{BTreeMap, get, is_at}
use Rattle.std.specs.Ordering.{nat_cmp}
use Rattle.histories.specs.declared.entry.Entry.{Entry}
use Rattle.histories.specs.History.{history, replay, IsLegal, IsStep}
use Rattle.journal_audit.specs.declared.watched.Watched.{Watched}
use Rattle.journal_audit.specs.Illegal.{IsFirstIllegal}

-- what is kept of a history
pub record IsWatched (so_far : List Entry) (w : Watched) : Type 0 where
  pub length_is : w.length ≡ length so_far
  pub legal : w.is_legal ≡ true → IsLegal so_far
  pub illegal : w.is_legal ≡ false → IsLegal so_far → ⊥

-- nothing is kept of a history without an entry
abbrev pub IsWatchedIn : List Entry → Option Watched → Type 0
IsWatchedIn so_far None = so_far ≡ []
IsWatchedIn so_far (Some w) = IsWatched so_far w

-- what is found at the entry after these: nothing new, or the first place where the history isn't
-- legal
abbrev pub IsFound : List Entry → Entry → Option ℕ → Type 0
IsFound so_far e None = IsLegal so_far → IsLegal (so_far ++ e ∷ [])
IsFound so_far e (Some at) = IsFirstIllegal (so_far ++ e ∷ []) at

abbrev pub WatchedQueues : Type 0
WatchedQueues = BTreeMap ℕ Watched

-- this entry is watched, which is a step or not, and the other histories stay as they were
pub record Watches (is_step : Bool) (old new : WatchedQueues) (e : Entry) : Type 0 where
  pub own : (so_far : List Entry) → IsTrue is_step ↔ IsStep (replay so_far) e →
      IsWatchedIn so_far (get nat_cmp old e.queue) →
      IsWatchedIn (so_far ++ e ∷ []) (get nat_cmp new e.queue)
  pub others : (q : ℕ) → is_at (nat_cmp e.queue) q ≡ false →
      get nat_cmp new q ≡ get nat_cmp old q

-- each history of these entries is watched
abbrev pub AreWatched : List Entry → WatchedQueues → Type 0
AreWatched so_far queues = (queue : ℕ) →
    IsWatchedIn (history queue so_far) (get nat_cmp queues queue)
