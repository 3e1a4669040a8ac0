use Rattle.place_rows.specs.Rows.{label_at}
use Rattle.std.proofs.Common.{ap, ◌∙◌}
use Rattle.locked_place.specs.Views.{LockedView, label_of}
use Rattle.place_rows.proofs.FirstPasses.{label_made, first_of}
use Rattle.place_rows.proofs.opening.open_place.Goals as goal

pub returns-in-Ok-clause-made : goal.returns-in-Ok-clause-made
returns-in-Ok-clause-made c =
    let first = first_of c.in-Ok.lock c.in-Ok.pass c.new-place.result
    (label_at c.args.outlets.now c.args.number) c.in-Ok.ensures.lock c.in-Ok.ensures.pass
    (ap (λ (p : LockedView). label_of p) c.new-place.ensures
    ∙ label_made c.args.outlets.now c.args.number c.args.places c.args.senders c.args.writer
    c.requires.places c.requires.senders c.requires.writer) in (
      c.in-Ok.lock,
      c.in-Ok.pass,
      c.push_reserved.ensures.items,
      c.push_reserved-in-Ok.ensures.items,
      first.0,
      first.1,
    )
