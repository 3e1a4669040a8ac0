-- Notices: what ports receive of the arrivals that their queues took.
use Rattle.std.specs.Prelude.{◌≡◌, ℕ, List, [], ◌∷◌, ◌++◌, filter, flat_map}
use Rattle.std.specs.Prelude.{Option, None}
use Rattle.packet_entry.specs.declared.letter.Letter.{Letter}
use Rattle.queue_core.specs.State.{Bound}
use Rattle.queue_core.specs.Step.{step}
use Rattle.histories.specs.declared.entry.Entry.{Entry}
use Rattle.histories.specs.History.{history}
use Rattle.histories.specs.Letters.{letters_under, is_from}
use Rattle.run_parts.specs.Log.{Note, Got, Turned, Begun, Spoke, Shut}

-- the notices that a port received
abbrev pub heard_by : Note → List Letter
heard_by (Got l) = l ∷ []
heard_by Turned = []
heard_by Begun = []
heard_by (Spoke call m errno) = []
heard_by Shut = []

abbrev pub heard : List Note → List Letter
heard notes = flat_map heard_by notes

-- the notices for a port of one queue's entries, from a state on
abbrev pub letters_from : ℕ → Option Bound → List Entry → List Letter
letters_from port q [] = []
letters_from port q (e ∷ es) =
    letters_under port q e ++ letters_from port (step q e.event).state es

-- Of each queue a port received the notices of the arrivals that the queue took while it was bound
-- to the port, in their order, each once; but for these that are left, the last of them.
abbrev pub AreNotices : List Entry → ℕ → List Note → List Letter → Type 0
AreNotices es port notes left =
    (queue : ℕ) →
    filter (is_from queue) (heard notes ++ left) ≡ letters_from port None (history queue es)
