use Rattle.std.proofs.Common.{◌+◌, ◌≤◌, ◌++◌, length, codes, decimal, sym, subst}
use Rattle.journals.specs.Format as text
use Rattle.journals.proofs.Placings.{then_placed, said_as, room_after, room_of_first}
use Rattle.journals.proofs.parts.put_arrival.Goals as goal

pub put_journey-at-requires : goal.put_journey-at-requires
put_journey-at-requires c =
    let front = codes "A " ++ decimal c.args.queue ++ codes " " in
    let journey = text.journey c.args.card.now in
    let ways = text.yes_no c.args.bypass ++ codes " " ++ text.yes_no c.args.room ++ codes " " in
    let facts = text.facts c.args.version c.args.card.now in
    record {
      room =
          room_after journey (then_placed c.put_number-at.ensures c.put_word-at.ensures)
          (room_of_first c.args.at (length c.args.to.now) (front ++ journey) ways
          (room_of_first c.args.at (length c.args.to.now) (front ++ journey ++ ways) facts
          c.requires.room));
    }

pub put_word-at-requires-2 : goal.put_word-at-requires-2
put_word-at-requires-2 c =
    let front = codes "A " ++ decimal c.args.queue ++ codes " " in
    let journey = text.journey c.args.card.now in
    let ways = text.yes_no c.args.bypass ++ codes " " ++ text.yes_no c.args.room ++ codes " " in
    let facts = text.facts c.args.version c.args.card.now in
    record {
      room =
          subst (λ l. c.put_journey-at.result + length l ≤ length c.put_journey-at.new.to)
          (sym c.ways.ensures)
          (room_after ways
          (then_placed (then_placed c.put_number-at.ensures c.put_word-at.ensures)
          c.put_journey-at.ensures)
          (room_of_first c.args.at (length c.args.to.now) (front ++ journey ++ ways) facts
          c.requires.room));
    }

pub put_facts-requires : goal.put_facts-requires
put_facts-requires c =
    let ways = text.yes_no c.args.bypass ++ codes " " ++ text.yes_no c.args.room ++ codes " " in
    record {
      room =
          room_after (text.facts c.args.version c.args.card.now)
          (then_placed
          (then_placed (then_placed c.put_number-at.ensures c.put_word-at.ensures)
          c.put_journey-at.ensures) (said_as ways c.ways.ensures c.put_word-at-2.ensures))
          c.requires.room;
    }

pub returns : goal.returns
returns c =
    let ways = text.yes_no c.args.bypass ++ codes " " ++ text.yes_no c.args.room ++ codes " " in
    then_placed
    (then_placed
    (then_placed (then_placed c.put_number-at.ensures c.put_word-at.ensures)
    c.put_journey-at.ensures) (said_as ways c.ways.ensures c.put_word-at-2.ensures))
    c.put_facts.ensures
