use Rattle.std.proofs.Common.{ap, ◌∙◌, rules}
use Rattle.glance.proofs.StepRule.{notes, takes_note, compares}
use Rattle.glance.proofs.laws.readings_were_published.Goals as goal

pub split_seat-note-requires : goal.split_seat-note-requires
split_seat-note-requires c = (search rules, search rules, notes _ _ _)

pub join_seat-requires : goal.join_seat-requires
join_seat-requires c =
    (search rules, search rules, search rules, search rules, takes_note _ _ _ _ _)

pub load-requires : goal.load-requires
load-requires c =
    let i = c.writer.invariant in (
      search rules,
      search rules,
      compares _ _ _ _ _ (ap (λ m. m.0.writes) c.join_seat.ensures.2 ∙ i.writes),
    )
