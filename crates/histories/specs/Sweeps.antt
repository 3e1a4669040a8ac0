-- For proofs alone: entries that the state of each queue asks for, over all queues.
use Rattle.std.specs.Prelude.{◌≡◌, ℕ, List, [], Option, None, ◌==◌, false}
use Rattle.queue_core.specs.State.{Bound}
use Rattle.histories.specs.declared.entry.Entry.{Entry}
use Rattle.histories.specs.History.{history}
use Rattle.histories.specs.States.{state_of}

-- these entries are of one queue
abbrev pub OnlyAt : ℕ → List Entry → Type 0
OnlyAt n es = (q : ℕ) → (n == q) ≡ false → history q es ≡ []

-- what one queue's state asks for: nothing where the queue is absent, and entries of it alone
pub record AsksAtOne (one : ℕ → Option Bound → List Entry) : Type 0 where
  pub absent : (q : ℕ) → one q None ≡ []
  pub only : (q : ℕ) (s : Option Bound) → OnlyAt q (one q s)

-- what the states at first ask for
abbrev pub asked_at : (ℕ → Option Bound → List Entry) → List Entry → ℕ → List Entry
asked_at one before q = one q (state_of before q)
