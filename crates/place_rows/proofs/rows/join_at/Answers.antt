use Rattle.std.proofs.Common.{ap, ◌∙◌, arith}
use Rattle.turn_lock.specs.Passes.{view_of}
use Rattle.turn_lock.specs.Views.{label_of}
use Rattle.locked_place.specs.Views as place
use Rattle.place_rows.specs.Rows.{TimedKnown}
use Rattle.place_rows.specs.Joining.{Joins}
use Rattle.place_rows.proofs.RowPasses.{pass_there, passes_set, as_many, row_there, turns_one}
use Rattle.place_rows.proofs.RowPasses.{at_lock}
use Rattle.place_rows.proofs.rows.join_at.Goals as goal

pub index_mut-requires : goal.index_mut-requires
index_mut-requires c =
    omega (
      arith,
      row_there place.label_of _ _ c.args.into.now.items c.requires.passes.1 c.args.place
          c.requires.there,
    )

pub join-requires-clause-lock : goal.join-requires-clause-lock
join-requires-clause-lock c =
    let r = c.requires.passes in
    let there = pass_there place.label_of r.0 c.args.locks.now.items c.args.into.now.items
    c.args.place
    c.index.result.now c.index_mut.result.now r.1 c.requires.there c.index.ensures
    c.index_mut.ensures.value in
    let one = at_lock place.label_of r.0 c.args.locks.now.items c.args.place c.index.result.now
    c.args.pass r.2 c.requires.there c.index.ensures in
    (there.of, one.of)

pub join-requires-clause-outside : goal.join-requires-clause-outside
join-requires-clause-outside c =
    let r = c.requires.passes in
    let there = pass_there place.label_of r.0 c.args.locks.now.items c.args.into.now.items
    c.args.place
    c.index.result.now c.index_mut.result.now r.1 c.requires.there c.index.ensures
    c.index_mut.ensures.value in
    (there.outside, r.2.of.outside)

pub returns-clause-passes : goal.returns-clause-passes
returns-clause-passes c = λ named row.
    let there = pass_there place.label_of named c.args.locks.now.items c.args.into.now.items
    c.args.place
    c.index.result.now c.index_mut.result.now row c.requires.there c.index.ensures
    c.index_mut.ensures.value in
    passes_set place.label_of named c.args.locks.now.items c.args.into.now.items c.args.place
    c.index.result.now c.join.new.into row c.requires.there c.index.ensures
    (record {
      of = c.join.ensures.lock.0 ∙ there.of;
      outside = ap (λ (v : TimedKnown). v.turn) c.join.ensures.joined;
      named_so = ap (λ (v : TimedKnown). label_of place.label_of v) c.join.ensures.joined
          ∙ there.named_so;
    })

pub returns-clause-joins : goal.returns-clause-joins
returns-clause-joins c =
    let r = c.requires.passes in
    turns_one c.args.into.now.items c.args.place c.index_mut.result.now c.join.new.into
    (Joins (view_of c.args.pass))
    (omega (
      arith,
      as_many place.label_of r.0 c.args.locks.now.items c.args.into.now.items r.1,
      c.requires.there,
    ))
    c.index_mut.ensures.value
    (record {
      is = c.join.ensures.joined;
      first = c.join.ensures.begins.0;
      second = c.join.ensures.begins.1;
      apart = c.join.ensures.apart;
    })
