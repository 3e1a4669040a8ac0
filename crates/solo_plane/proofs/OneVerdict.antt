-- A verdict lets at most one packet go on.
use Rattle.std.proofs.Common.{◌≤◌, ◌∷◌, [], length, Option, Some, None, arith}
use Rattle.packet_entry.specs.declared.packet.Card.{Card}
use Rattle.queue_core.specs.Decision.{Edit, edited, decision_of}
use Rattle.queue_core.specs.State.{Bound}
use Rattle.queue_core.specs.Step.{Way, Gone, Open, Decided, Ruling, Refused, Allowed}
use Rattle.queue_core.specs.Step.{card_under, carried_out, verdict_under, way_of}
use Rattle.histories.specs.Happenings.{all_handed}

by_way : (card : Card) (way : Way) → length (all_handed ((card, way) ∷ [])) ≤ 1
by_way card Gone = omega arith
by_way card Open = omega arith
by_way card (Decided decision) = omega arith

pub one_goes_on : (ruling : Ruling) (q : Option Bound) (edit : Edit) →
    length (all_handed (verdict_under ruling q edit).left) ≤ 1
one_goes_on (Refused errno) q edit = omega arith
one_goes_on (Allowed bound head) q edit = by_card (card_under bound head.id)
  where
    by_card : (o : Option Card) → length (all_handed (carried_out bound head edit o).left) ≤ 1
    by_card None = omega arith
    by_card (Some card) = by_way (edited edit card) (way_of (decision_of head.verdict))
