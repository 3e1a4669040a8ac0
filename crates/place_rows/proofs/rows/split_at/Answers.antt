use Rattle.std.proofs.Common.{ap, ◌∙◌, arith}
use Rattle.std.proofs.lemmas.Option.{slice_get_read}
use Rattle.std.proofs.Common.{refl, length}
use Rattle.turn_lock.specs.Views.{label_of}
use Rattle.locked_place.specs.Views as place
use Rattle.place_rows.specs.Rows.{TimedKnown}
use Rattle.place_rows.specs.Joining.{Splits}
use Rattle.turn_lock.specs.Passes.{view_of}
use Rattle.place_rows.proofs.RowPasses.{pass_there, passes_set, as_many, row_there, turns_one}
use Rattle.place_rows.proofs.rows.split_at.Goals as goal

pub index_mut-requires : goal.index_mut-requires
index_mut-requires c =
    omega (
      arith,
      row_there place.label_of _ _ c.args.row.now.items c.requires.passes.1 c.args.place
          c.requires.there,
    )

pub split-requires-clause-lock : goal.split-requires-clause-lock
split-requires-clause-lock c =
    let r = c.requires.passes in
    (pass_there place.label_of r.0 c.args.locks.now.items c.args.row.now.items c.args.place
    c.index.result.now c.index_mut.result.now r.1 c.requires.there c.index.ensures
    c.index_mut.ensures.value).of

pub split-requires-clause-outside : goal.split-requires-clause-outside
split-requires-clause-outside c =
    let r = c.requires.passes in
    (pass_there place.label_of r.0 c.args.locks.now.items c.args.row.now.items c.args.place
    c.index.result.now c.index_mut.result.now r.1 c.requires.there c.index.ensures
    c.index_mut.ensures.value).outside

pub returns-clause-passes : goal.returns-clause-passes
returns-clause-passes c = λ named row.
    let there = pass_there place.label_of named c.args.locks.now.items c.args.row.now.items
    c.args.place c.index.result.now c.index_mut.result.now row c.requires.there c.index.ensures
    c.index_mut.ensures.value in (
      passes_set place.label_of named c.args.locks.now.items c.args.row.now.items c.args.place
          c.index.result.now c.split.new.pass row c.requires.there c.index.ensures
          (record {
            of = c.in-Ok.ensures.lock.0.0 ∙ there.of;
            outside = ap (λ (v : TimedKnown). v.turn) c.in-Ok.ensures.kept ∙ there.outside;
            named_so = ap (λ (v : TimedKnown). label_of place.label_of v) c.in-Ok.ensures.kept
                ∙ there.named_so;
          }),
      record {
        lock = c.index.result.now;
        there = slice_get_read c.args.locks.now.items (length c.args.locks.now.items)
            c.args.place c.index.result.now refl c.requires.there c.index.ensures;
        of = record {
          of = c.in-Ok.ensures.lock.1;
          outside = ap (λ (v : TimedKnown). v.turn) c.in-Ok.ensures.made;
          named_so = ap (λ (v : TimedKnown). label_of place.label_of v) c.in-Ok.ensures.made
              ∙ there.named_so;
        };
      },
    )

pub returns-clause-splits : goal.returns-clause-splits
returns-clause-splits c =
    let r = c.requires.passes in
    turns_one c.args.row.now.items c.args.place c.index_mut.result.now c.split.new.pass
    (Splits (view_of c.in-Ok.piece))
    (omega (
      arith,
      as_many place.label_of r.0 c.args.locks.now.items c.args.row.now.items r.1,
      c.requires.there,
    ))
    c.index_mut.ensures.value
    (record { kept = c.in-Ok.ensures.kept; split = c.in-Ok.ensures.made })
