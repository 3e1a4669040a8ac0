use Rattle.std.proofs.Common.{arith}
use Rattle.locked_place.specs.Views.{label_of}
use Rattle.place_rows.proofs.RowPasses.{pass_there, passes_set, as_many, row_there, row_there}
use Rattle.place_rows.proofs.ToldRows.{tells_one}
use Rattle.place_rows.proofs.rows.tell_at.Goals as goal

pub tell-requires : goal.tell-requires
tell-requires c =
    let r = c.requires.passes in
    record {
      passes = (
        r.0 c.args.place,
        pass_there label_of r.0 c.args.locks.now.items c.args.from.now.items c.args.place
            c.index.result.now c.index_mut.result.now r.1 c.requires.there c.index.ensures
            c.index_mut.ensures.value,
        pass_there label_of r.0 c.args.locks.now.items c.args.into.now.items c.args.place
            c.index.result.now c.index_mut-2.result.now r.2 c.requires.there c.index.ensures
            c.index_mut-2.ensures.value,
      );
    }

pub index_mut-requires : goal.index_mut-requires
index_mut-requires c =
    omega (
      arith,
      row_there label_of _ _ c.args.from.now.items c.requires.passes.1 c.args.place
          c.requires.there,
    )

pub index_mut-requires-2 : goal.index_mut-requires-2
index_mut-requires-2 c =
    omega (
      arith,
      row_there label_of _ _ c.args.into.now.items c.requires.passes.2 c.args.place
          c.requires.there,
    )

pub returns-clause-from : goal.returns-clause-from
returns-clause-from c = λ named row.
    passes_set label_of named c.args.locks.now.items c.args.from.now.items c.args.place
    c.index.result.now c.tell.new.from row c.requires.there c.index.ensures
    (c.tell.ensures.from (named c.args.place)
    (pass_there label_of named c.args.locks.now.items c.args.from.now.items c.args.place
    c.index.result.now c.index_mut.result.now row c.requires.there c.index.ensures
    c.index_mut.ensures.value))

pub returns-clause-into : goal.returns-clause-into
returns-clause-into c = λ named row.
    passes_set label_of named c.args.locks.now.items c.args.into.now.items c.args.place
    c.index.result.now c.tell.new.into row c.requires.there c.index.ensures
    (c.tell.ensures.into (named c.args.place)
    (pass_there label_of named c.args.locks.now.items c.args.into.now.items c.args.place
    c.index.result.now c.index_mut-2.result.now row c.requires.there c.index.ensures
    c.index_mut-2.ensures.value))

pub returns-clause-told : goal.returns-clause-told
returns-clause-told c =
    let r = c.requires.passes in
    tells_one c.args.from.now.items c.args.into.now.items c.args.place c.index_mut.result.now
    c.index_mut-2.result.now c.tell.new.from c.tell.new.into
    (omega (
      arith,
      as_many label_of r.0 c.args.locks.now.items c.args.from.now.items r.1,
      c.requires.there,
    ))
    (omega (
      arith,
      as_many label_of r.0 c.args.locks.now.items c.args.into.now.items r.2,
      c.requires.there,
    ))
    c.index_mut.ensures.value c.index_mut-2.ensures.value c.tell.ensures.told
