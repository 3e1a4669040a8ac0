-- The stays of packets at one queue: each begins with an arrival, and ends as the packet leaves.
use Rattle.std.specs.Prelude.{List, [], ◌∷◌, ◌++◌, Option, None}
use Rattle.packet_entry.specs.declared.packet.Card.{Card}
use Rattle.queue_core.specs.State.{Bound}
use Rattle.queue_core.specs.Step.{step}
use Rattle.queue_core.specs.Laws.{arriving, leaving_in}
use Rattle.histories.specs.declared.entry.Entry.{Entry}

-- the packets that arrived, entry by entry
abbrev pub arrivals : List Entry → List Card
arrivals [] = []
arrivals (e ∷ es) = arriving e.event ++ arrivals es

-- the packets that left, step by step, from a state on
abbrev pub departures_from : Option Bound → List Entry → List Card
departures_from q [] = []
departures_from q (e ∷ es) =
    leaving_in (step q e.event) ++ departures_from (step q e.event).state es

-- the packets that left in a history; those that are turned away leave as they arrive
abbrev pub departures : List Entry → List Card
departures es = departures_from None es
