use Rattle.journals.proofs.Lengths.{card_within}
use Rattle.journals.proofs.line_room.card_is_short.Goals as goal

pub returns : goal.returns
returns c =
    card_within c.args.card.now c.args.bypass.now c.args.room.now c.journey_is_short.ensures
    c.ways_are_short.ensures c.facts_are_short.ensures
