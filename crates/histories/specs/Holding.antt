-- What holds of packets all along: entries that keep it lead to states in which it holds of all
-- that waits, and so of all that leaves.
use Rattle.std.specs.Prelude.{ℕ, List, [], ◌∷◌, ◌++◌, Option, None}
use Rattle.std.specs.List.{AllByRecursion}
use Rattle.queue_core.specs.declared.event.Event.{Event}
use Rattle.queue_core.specs.State.{Bound}
use Rattle.queue_core.specs.Step.{step}
use Rattle.queue_core.specs.Walk.{either}
use Rattle.queue_core.specs.Holding.{Property, Keeps, HoldsIn, AllLeave, holds_after}
use Rattle.histories.specs.declared.entry.Entry.{Entry}
use Rattle.histories.specs.History.{history, is_of, replay_from}
use Rattle.histories.specs.States.{state_of, step_of}

-- ---- what holds of each entry

module _ (G : Entry → Type 0) where
  -- holds of each of one queue's,
  pub in_history : (queue : ℕ) (es : List Entry) → AllByRecursion G es →
      AllByRecursion G (history queue es)
  in_history queue [] all = tt
  in_history queue (e ∷ es) all =
      either (AllByRecursion G) (is_of queue e) (e ∷ history queue es) (history queue es)
      (λ is. (all.0, in_history queue es all.1)) (λ no. in_history queue es all.1)

  -- of entries behind entries,
  pub appended : (es fs : List Entry) → AllByRecursion G es → AllByRecursion G fs →
      AllByRecursion G (es ++ fs)
  appended [] fs one two = two
  appended (e ∷ es) fs one two = (one.0, appended es fs one.1 two)

  -- and so does what follows from it
  pub weaker : (H : Entry → Type 0) → ((e : Entry) → G e → H e) → (es : List Entry) →
      AllByRecursion G es → AllByRecursion H es
  weaker H less [] all = tt
  weaker H less (e ∷ es) all = (less e all.0, weaker H less es all.1)

-- ---- what holds of packets

-- each of these entries keeps it
abbrev pub AllKeep : Property → List Entry → Type 0
AllKeep F es = AllByRecursion (λ (e : Entry). Keeps F e.event) es

module _ (F : Property) where
  replay_holds : (q : Option Bound) (es : List Entry) → AllKeep F es → HoldsIn F q →
      HoldsIn F (replay_from q es)
  replay_holds q [] keep held = held
  replay_holds q (e ∷ es) keep held =
      replay_holds (step q e.event).state es keep.1 (holds_after F q e.event keep.0 held).0

  -- it holds of what waits in each queue,
  pub state_holds : (es : List Entry) (queue : ℕ) → AllKeep F es → HoldsIn F (state_of es queue)
  state_holds es queue keep =
      replay_holds None (history queue es)
      (in_history (λ (e : Entry). Keeps F e.event) queue es keep) tt

  -- and of what leaves by one more event
  pub leaving_holds : (es : List Entry) (queue : ℕ) (event : Event) → AllKeep F es →
      Keeps F event → AllLeave F (step_of es queue event).left
  leaving_holds es queue event keep one =
      (holds_after F (state_of es queue) event one (state_holds es queue keep)).1
