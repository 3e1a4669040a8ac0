-- What a step lets go on.
use Rattle.std.specs.Prelude.{List, [], ◌∷◌, flat_map}
use Rattle.packet_entry.specs.declared.packet.Card.{Card}
use Rattle.hook_chain.specs.declared.chain.Decision.{Decision}
use Rattle.hook_chain.specs.declared.chain.Decision.TheVariants.{Accept}
use Rattle.queue_core.specs.Step.{Way, Gone, Open, Decided}

-- of what left a queue: nothing where it was destroyed; what is let through goes on as if it was
-- accepted
abbrev pub going : Card × Way → List (Card × Decision)
going (card, Gone) = []
going (card, Open) = (card, Accept) ∷ []
going (card, Decided decision) = (card, decision) ∷ []

-- of all that left
abbrev pub all_going : List (Card × Way) → List (Card × Decision)
all_going left = flat_map going left
