use Rattle.std.proofs.Common.{ℕ, List, sym, subst, ◌∙◌}
use Rattle.packet_entry.specs.declared.packet.Card.{Card}
use Rattle.queue_replay.specs.Waiting.{IsOldest}
use Rattle.queue_replay.proofs.Cards.{first_is_oldest, none_is_oldest}
use Rattle.queue_replay.proofs.waiting_list.WaitingList.oldest.Goals as goal

pub returns-in-Some : goal.returns-in-Some
returns-in-Some c =
    subst (λ (ws : List (ℕ × Card)). IsOldest ws c.in-Some.id.now) c.self.view_is
    (first_is_oldest c.self.inside.cards.entries c.in-Some.id.now c.in-Some.field-0-1.now
    c.in-Some.ensures)

pub returns-in-None : goal.returns-in-None
returns-in-None c =
    sym c.self.view_is ∙ none_is_oldest c.self.inside.cards.entries c.in-None.ensures
