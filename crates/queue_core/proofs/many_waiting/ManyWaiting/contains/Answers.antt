use Rattle.std.proofs.Common.{List, ℕ, None, ap, ◌∙◌}
use Rattle.std.specs.Map.{keys_of}
use Rattle.std.specs.Prelude.{is_some}
use Rattle.packet_entry.specs.declared.packet.Card.{Card}
use Rattle.queue_core.specs.Ids.{is_among}
use Rattle.queue_core.proofs.Links.{among_linked}
use Rattle.queue_core.proofs.many_waiting.ManyWaiting.contains.Goals as goal

pub returns : goal.returns
returns c =
    c.contains_key.ensures ∙ ap is_some (c.self.invariant.each c.args.id)
    ∙ among_linked None _ c.args.id
    ∙ ap (λ (ws : List (ℕ × Card)). is_among (keys_of ws) c.args.id) c.self.view_is
