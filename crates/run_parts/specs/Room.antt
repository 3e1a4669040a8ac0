-- Room: arrivals are turned away for want of room only where a port was sent as many notices as its
-- mailbox holds.
use Rattle.std.specs.Prelude.{◌≡◌, ◌≤◌, ℕ, Bool, true, false, ◌||◌, List, [], ◌∷◌, ◌++◌, length}
use Rattle.std.specs.Prelude.{Option, None}
use Rattle.packet_entry.specs.declared.letter.Letter.{Letter}
use Rattle.queue_core.specs.State.{Bound}
use Rattle.queue_core.specs.Step.{step}
use Rattle.histories.specs.declared.entry.Entry.{Entry}
use Rattle.histories.specs.History.{history}
use Rattle.histories.specs.Letters.{lacks_under}
use Rattle.run_parts.specs.Log.{Note}
use Rattle.run_parts.specs.Notices.{heard}

-- one of these found no room in the mailbox of the port, from a state on
abbrev pub some_lacks : ℕ → Option Bound → List Entry → Bool
some_lacks port q [] = false
some_lacks port q (e ∷ es) = lacks_under port q e || some_lacks port (step q e.event).state es

-- Where an arrival at a queue of the port found no room, the notices that the port received and
-- those that are left are at least as many as its mailbox holds.
abbrev pub AreRoomy : ℕ → List Entry → ℕ → List Note → List Letter → Type 0
AreRoomy mail es port notes left =
    (queue : ℕ) → some_lacks port None (history queue es) ≡ true →
    mail ≤ length (heard notes ++ left)
