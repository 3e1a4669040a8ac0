use Rattle.std.proofs.Common.{◌≤◌, ◌++◌, length, codes, decimal, subst, arith}
use Rattle.journals.specs.Format as text
use Rattle.journals.proofs.Lengths.{arrival_within}
use Rattle.journals.proofs.line_room.arrival_is_short.Goals as goal

pub returns : goal.returns
returns c =
    let bypass = text.yes_no c.args.bypass in
    let room = text.yes_no c.args.room in
    arrival_within (codes "A " ++ decimal c.args.queue) (text.journey c.args.card.now) bypass room
    (text.facts c.args.version c.args.card.now) (omega (arith, c.number_is_short.ensures))
    c.journey_is_short.ensures
    (subst (λ l. length (l ++ codes " " ++ room ++ codes " ") ≤ 4) c.yes_no.ensures.word
    (subst (λ l. length (c.yes_no.result.now ++ codes " " ++ l ++ codes " ") ≤ 4)
    c.yes_no-2.ensures.word c.ways_are_short.ensures))
    c.facts_are_short.ensures
