-- For proofs alone: entries that are gone over, one after the other, and what was found at them.
use Rattle.std.proofs.Common.{◌≡◌, List, [], ◌∷◌, ◌++◌, sym, ap, ◌∙◌, subst, append_assoc}
use Rattle.std.proofs.Common.{append-nil}
use Rattle.histories.specs.declared.entry.Entry.{Entry}
use Rattle.histories.specs.History.{history, replay}
use Rattle.queue_replay.specs.declared.found.Found.{Found}
use Rattle.queue_replay.specs.Replays.{IsFound, AreFound}

-- these entries are still to come, and this holds of those before them and of them
pub record IsUnderway (P : List Entry → List Entry → Type 0) (entries rest : List Entry) : Type 0
  where
    pub before : List Entry
    pub split : entries ≡ before ++ rest
    pub kept : P before rest

pub begun : (P : List Entry → List Entry → Type 0) (entries rest : List Entry) →
    rest ≡ entries → P [] entries → IsUnderway P entries rest
begun P entries rest all kept = record {
  before = [];
  split = sym all;
  kept = subst (P []) (sym all) kept;
}

module _ (P : List Entry → List Entry → Type 0) (entries rest others : List Entry) (e : Entry)
    (front : rest ≡ e ∷ others) (u : IsUnderway P entries rest) where
  pub there : entries ≡ u.before ++ e ∷ others
  there = u.split ∙ ap (λ (es : List Entry). u.before ++ es) front

  pub kept_there : P u.before (e ∷ others)
  kept_there = subst (P u.before) front u.kept

  -- something else may hold from there on
  pub underway_on : (Q : List Entry → List Entry → Type 0) → Q (u.before ++ e ∷ []) others →
      IsUnderway Q entries others
  underway_on Q kept = record {
    before = u.before ++ e ∷ [];
    split = there ∙ sym (append_assoc u.before (e ∷ []) others);
    kept = kept;
  }

-- at the end
pub all_gone_over : (P : List Entry → List Entry → Type 0) (entries rest : List Entry) →
    rest ≡ [] → IsUnderway P entries rest → P entries []
all_gone_over P entries rest none u =
    subst (λ es. P es []) (sym (u.split ∙ ap (λ (es : List Entry). u.before ++ es) none
    ∙ append-nil u.before)) (subst (P u.before) none u.kept)

-- ---- what was found is gone over

-- something was found at the next entry
pub some_found : (before others : List Entry) (e : Entry) (found : List Found) →
    AreFound before (e ∷ others) found → found ≡ [] → ⊥
some_found before others e found are none = subst (AreFound before (e ∷ others)) none are

-- and what was found there is what is so of its queue
pub next_is : (before others : List Entry) (e : Entry) (found fs : List Found) (f : Found) →
    found ≡ f ∷ fs → AreFound before (e ∷ others) found →
    IsFound (replay (history e.queue before)) e f × AreFound (before ++ e ∷ []) others fs
next_is before others e found fs f first are = subst (AreFound before (e ∷ others)) first are

-- this was found at those that are still to come, and something holds besides
abbrev pub WithFound : List Found → (List Entry → List Entry → Type 0) →
    List Entry → List Entry → Type 0
WithFound found P before rest = AreFound before rest found × P before rest

module _ (found : List Found) (P : List Entry → List Entry → Type 0)
    (entries rest others : List Entry) (e : Entry) (front : rest ≡ e ∷ others)
    (u : IsUnderway (WithFound found P) entries rest) where
  so_far : WithFound found P u.before (e ∷ others)
  so_far = kept_there (WithFound found P) entries rest others e front u

  pub found_is_some : found ≡ [] → ⊥
  found_is_some = some_found u.before others e found so_far.0

  pub holds_there : P u.before (e ∷ others)
  holds_there = so_far.1

  module _ (fs : List Found) (f : Found) (first : found ≡ f ∷ fs) where
    pub found_there : IsFound (replay (history e.queue u.before)) e f
    found_there = (next_is u.before others e found fs f first so_far.0).0

    -- something else may hold from there on
    pub found_on : (Q : List Entry → List Entry → Type 0) →
        (IsFound (replay (history e.queue u.before)) e f → P u.before (e ∷ others) →
        Q (u.before ++ e ∷ []) others) → IsUnderway (WithFound fs Q) entries others
    found_on Q goes =
        underway_on (WithFound found P) entries rest others e front u (WithFound fs Q)
        ((next_is u.before others e found fs f first so_far.0).1, goes found_there holds_there)
