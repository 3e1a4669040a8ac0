-- For proofs alone: what goes on, and what it asks for.
use Rattle.std.specs.Prelude.{ℕ, ◌+◌, List}
use Rattle.packet_entry.specs.declared.packet.Card.{Card}
use Rattle.hook_chain.specs.Rules.{RuleTables}
use Rattle.hook_chain.specs.Route.{onward_of}
use Rattle.hook_chain.specs.declared.chain.Decision.{Decision}
use Rattle.histories.specs.Journeys.{Arrival, asked_by_some}

-- what a packet asks for that goes on by this decision
abbrev pub asked_after : RuleTables → ℕ → Card × Decision → List Arrival
asked_after tables key (card, decision) =
    asked_by_some (onward_of tables key card decision) card (card.visit + 1)
