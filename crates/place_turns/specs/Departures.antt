-- What passes have seen of packets that left queues, before they arrive again.
use Rattle.std.specs.Prelude.{◌≡◌, ℕ, zero, suc, List, [], ◌∷◌, Some, slice_get}
use mathlib.Core.List.{IsPrefix}
use Rattle.packet_entry.specs.declared.packet.Card.{Card}
use Rattle.hook_chain.specs.declared.chain.Decision.{Decision}
use Rattle.total_order.specs.Steps.{HasLeft}
use Rattle.packet_moves.specs.declared.came.Came.{Came}
use Rattle.packet_moves.specs.declared.came.Came.TheVariants.{Ended, GoesOn}
use Rattle.locked_place.specs.declared.arrivals.Placed.{Placed}
use Rattle.locked_place.specs.declared.arrivals.Placed.TheVariants.{Waiting, Back}
use Rattle.place_rows.specs.Rows.{TimedKnown, HasTurned}
use Rattle.place_turns.specs.Timely.{HasSeen}

-- The packet was seen to leave at this visit. Before its first visit it was nowhere.
abbrev pub HasSeenLeave : List TimedKnown → ℕ → ℕ → Type 0
HasSeenLeave row number zero = Unit {0}
HasSeenLeave row number (suc visit) = HasSeen row (HasLeft number (suc visit))

-- before it arrives at this visit it was seen to leave at the one before
abbrev pub HasSeenCome : List TimedKnown → ℕ → ℕ → Type 0
HasSeenCome row number zero = Unit {0}
HasSeenCome row number (suc visit) = HasSeenLeave row number visit

-- a packet that came back was seen to leave
abbrev pub HasSeenBack : List TimedKnown → Placed → Type 0
HasSeenBack row (Waiting port) = Unit {0}
HasSeenBack row (Back outcome card) = HasSeenLeave row card.number card.visit

-- and so was one that goes on
abbrev pub HasSeenOff : List TimedKnown → Came → Type 0
HasSeenOff row (Ended fed) = Unit {0}
HasSeenOff row (GoesOn card route) = HasSeenLeave row card.number card.visit

-- and each of these
abbrev pub HaveSeenAll : List TimedKnown → List (Card × Decision) → Type 0
HaveSeenAll row [] = Unit {0}
HaveSeenAll row (h ∷ hs) = HasSeenLeave row h.0.number h.0.visit × HaveSeenAll row hs

-- of each place at least as much was seen then
abbrev pub SeeOn : List TimedKnown → List TimedKnown → Type 0
SeeOn olds news = (k : ℕ) (v : TimedKnown) → slice_get olds k ≡ Some v →
    HasTurned v news k (λ v w. IsPrefix v.seen w.seen)
