-- The packets that left in entries: one list of all, and where each entry's end in it.
use Rattle.std.specs.Prelude.{◌≡◌, ◌≤◌, ℕ, zero, suc, List, [], ◌∷◌, ◌++◌, length, unwrap_or}
use Rattle.std.specs.Prelude.{Option, slice_get, slice_range}
use Rattle.queue_core.specs.State.{Bound}
use Rattle.queue_core.specs.Step.{step}
use Rattle.histories.specs.declared.entry.Entry.{Entry}
use Rattle.histories.specs.History.{history, replay, IsStep}
use Rattle.queue_replay.specs.Leaving.{visits_left}
use Rattle.queue_replay.specs.declared.departed.Departed.{Departed}

-- the packets between these places left in this entry at a queue in this state, if it is a step
pub record IsPart (q : Option Bound) (e : Entry) (all : List (ℕ × ℕ)) (start end : ℕ) : Type 0
  where
    pub order : start ≤ end
    pub within : end ≤ length all
    pub left : IsStep q e → slice_range all start end ≡ visits_left (step q e.event)

-- so it is of each of these entries, behind others: its packets begin where those of the entry
-- before end
abbrev pub AreParts : List (ℕ × ℕ) → List Entry → List Entry → ℕ → List ℕ → Type 0
AreParts all before [] start [] = start ≡ length all
AreParts all before [] start (end ∷ ends) = ⊥
AreParts all before (e ∷ es) start [] = ⊥
AreParts all before (e ∷ es) start (end ∷ ends) =
    IsPart (replay (history e.queue before)) e all start end
    × AreParts all (before ++ e ∷ []) es end ends

-- what left in all of these entries
abbrev pub AreDeparted : List Entry → Departed → Type 0
AreDeparted es d = AreParts d.visits.items [] es 0 d.ends.items

-- ---- for proofs alone

-- nothing
pub record IsNone (d : Departed) : Type 0 where
  pub visits : d.visits.items ≡ []
  pub ends : d.ends.items ≡ []

-- what leaves in one entry more, at a queue in this state
pub record Adds (old new : Departed) (q : Option Bound) (e : Entry) : Type 0 where
  pub part : List (ℕ × ℕ)
  pub visits : new.visits.items ≡ old.visits.items ++ part
  pub left : IsStep q e → part ≡ visits_left (step q e.event)
  pub ends : new.ends.items ≡ old.ends.items ++ length new.visits.items ∷ []

-- where the packets of the entry at a place end, and where they begin
abbrev pub end_at : List ℕ → ℕ → ℕ
end_at ends place = unwrap_or (slice_get ends place) 0

abbrev pub start_at : ℕ → List ℕ → ℕ → ℕ
start_at start ends zero = start
start_at start [] (suc place) = 0
start_at start (end ∷ ends) (suc place) = start_at end ends place

-- those between
abbrev pub IsAt : Departed → ℕ → List (ℕ × ℕ) → Type 0
IsAt d place part =
    start_at 0 d.ends.items place ≤ end_at d.ends.items place →
    end_at d.ends.items place ≤ length d.visits.items →
    part ≡ slice_range d.visits.items (start_at 0 d.ends.items place)
    (end_at d.ends.items place)
