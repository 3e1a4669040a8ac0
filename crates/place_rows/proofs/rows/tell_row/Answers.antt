use Rattle.std.proofs.Common.{map, sym, ◌∙◌}
use Rattle.std.proofs.lemmas.List.{length-map}
use Rattle.locked_place.specs.Views.{label_of}
use Rattle.place_rows.proofs.RowPasses.{as_many}
use Rattle.turn_lock.specs.Passes.{view_of}
use Rattle.place_rows.proofs.ToldRows.{none_told, one_told}
use Rattle.place_rows.proofs.rows.tell_row.Goals as goal

pub loop-place-init : goal.loop-place-init
loop-place-init c =
    let r = c.requires.passes in
    record {
      from = λ named row. row;
      into = λ named row. row;
      told = none_told (map view_of c.args.from.now.items) (map view_of c.args.into.now.items)
          (length-map c.args.into.now.items view_of
          ∙ as_many label_of r.0 c.args.locks.now.items c.args.into.now.items r.2
          ∙ sym (as_many label_of r.0 c.args.locks.now.items c.args.from.now.items r.1)
          ∙ sym (length-map c.args.from.now.items view_of));
    }

pub tell_at-requires-clause-passes : goal.tell_at-requires-clause-passes
tell_at-requires-clause-passes c =
    let r = c.requires.passes in
    let inv = c.loop-place.invariant in
    (r.0, inv.from r.0 r.1, inv.into r.0 r.2)

pub loop-place-preserved : goal.loop-place-preserved
loop-place-preserved c =
    let inv = c.loop-place.invariant in
    record {
      from = λ named row. c.tell_at.ensures.from named (inv.from named row);
      into = λ named row. c.tell_at.ensures.into named (inv.into named row);
      told = one_told c.loop-place.place _ _ _ _ _ _ inv.told c.tell_at.ensures.told;
    }
