use Rattle.std.proofs.Common.{ℕ, List, ap, ◌∙◌}
use Rattle.std.specs.Map.{keys_of}
use Rattle.packet_entry.specs.declared.packet.Card.{Card}
use Rattle.queue_core.specs.Ids.{is_among}
use Rattle.queue_replay.proofs.Cards.{among}
use Rattle.queue_replay.proofs.waiting_list.WaitingList.contains.Goals as goal

pub returns : goal.returns
returns c =
    c.contains.ensures ∙ among c.args.id c.self.inside.cards.entries
    ∙ ap (λ (ws : List (ℕ × Card)). is_among (keys_of ws) c.args.id) c.self.view_is
