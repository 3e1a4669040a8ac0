-- What an entry says of the mailbox of its queue's port: the notice that it put in, or that it
-- found no room there.
use Rattle.std.specs.Prelude.{ℕ, Bool, false, not, ◌&&◌, ◌==◌, if◌then◌else◌, List, [], ◌∷◌}
use Rattle.std.specs.Prelude.{Option, Some, None}
use Rattle.packet_entry.specs.declared.packet.Card.{Card}
use Rattle.packet_entry.specs.declared.letter.Letter.{Letter}
use Rattle.queue_core.specs.State.{Bound}
use Rattle.queue_core.specs.WithOffer.{letter_of}
use Rattle.queue_core.specs.declared.event.Event.{Event}
use Rattle.queue_core.specs.declared.event.Event.TheVariants.{Arrive}
use Rattle.queue_core.specs.declared.event.Reply.{Reply}
use Rattle.queue_core.specs.declared.event.Reply.TheVariants.{Arrived}
use Rattle.queue_core.specs.declared.offers.Outcome.{Outcome}
use Rattle.queue_core.specs.declared.offers.Outcome.TheVariants.{Taken}
use Rattle.histories.specs.declared.entry.Entry.{Entry}

-- the notice of an arrival that its queue took, at a queue in this state
abbrev pub letters_of_outcome : ℕ → Bound → Card → Outcome → List Letter
letters_of_outcome queue q card (Taken id) = letter_of queue q id card ∷ []
letters_of_outcome queue q card other = []

abbrev pub letters_of_reply : ℕ → Bound → Card → Reply → List Letter
letters_of_reply queue q card (Arrived outcome) = letters_of_outcome queue q card outcome
letters_of_reply queue q card other = []

abbrev pub letters_of_event : ℕ → Bound → Event → Reply → List Letter
letters_of_event queue q (Arrive card bypass room) reply = letters_of_reply queue q card reply
letters_of_event queue q other reply = []

-- it is for the port to which the queue was bound before the entry
abbrev pub letters_under : ℕ → Option Bound → Entry → List Letter
letters_under port None e = []
letters_under port (Some q) e =
    if port == q.port then letters_of_event e.queue q e.event e.reply else []

-- an arrival that found no room in a mailbox
abbrev pub lacks_room : Event → Bool
lacks_room (Arrive card bypass room) = not room
lacks_room other = false

-- it was the mailbox of the port to which the queue was bound
abbrev pub lacks_under : ℕ → Option Bound → Entry → Bool
lacks_under port None e = false
lacks_under port (Some q) e = (port == q.port) && lacks_room e.event

-- a notice of this queue
abbrev pub is_from : ℕ → Letter → Bool
is_from queue l = l.queue == queue
