use Rattle.std.proofs.Common.{rules, map, arith, ap, ◌≡◌, ◌∙◌, length, [], ◌∷◌}
use Rattle.std.proofs.lemmas.List.{map-append}
use Rattle.turn_lock.specs.Passes.{view_of}
use Rattle.locked_place.specs.Views.{label_of}
use Rattle.place_rows.proofs.RowPasses.{no_passes, one_pass_more, all_passes}
use Rattle.place_rows.proofs.ToldRows.{none_split, one_split, row_split}
use Rattle.place_rows.proofs.rows.split_row.Goals as goal

pub loop-place-init : goal.loop-place-init
loop-place-init c = record {
  row = λ named row. row;
  made = λ named row. no_passes label_of named c.args.locks.now.items c.args.made.now.items
      c.requires.room.0;
  split = none_split (map view_of c.args.row.now.items) (map view_of c.args.made.now.items)
      (ap (map view_of) c.requires.room.0);
  room = c.requires.room.1;
}

pub split_at-piece-requires-clause-passes : goal.split_at-piece-requires-clause-passes
split_at-piece-requires-clause-passes c =
    let r = c.requires.passes in
    (r.0, c.loop-place.invariant.row r.0 r.1)

pub loop-place-preserved : goal.loop-place-preserved
loop-place-preserved c =
    let inv = c.loop-place.invariant in
    let made = c.loop-place.made.items in
    record {
      row = λ named row. (c.split_at-piece.ensures.passes named (inv.row named row)).0;
      made = λ named row. one_pass_more label_of named c.args.locks.now.items c.loop-place.place
          made c.push_reserved.new.self.items c.split_at-piece.result (inv.made named row)
          c.push_reserved.ensures.items
          (c.split_at-piece.ensures.passes named (inv.row named row)).1;
      split = one_split c.loop-place.place _ _ _ _ _ (view_of c.split_at-piece.result) inv.split
          c.split_at-piece.ensures.splits
          (ap (map view_of) c.push_reserved.ensures.items
          ∙ map-append view_of made (c.split_at-piece.result ∷ []));
      room = omega (arith, inv.room, c.push_reserved.ensures.capacity);
    }

pub returns-clause-passes : goal.returns-clause-passes
returns-clause-passes c = λ named row.
    let inv = c.loop-place.invariant in
    let all : c.loop-place.place ≡ length c.args.locks.now.items = search rules in (
      inv.row named row,
      all_passes label_of named c.args.locks.now.items c.loop-place.place c.loop-place.made.items
          (inv.made named row) all,
    )

pub returns-clause-kept : goal.returns-clause-kept
returns-clause-kept c =
    let r = c.requires.passes in
    let all : c.loop-place.place ≡ length c.args.locks.now.items = search rules in
    (row_split label_of r.0 c.args.locks.now.items c.args.row.now.items r.1 _ _ _ all
    c.loop-place.invariant.split).kept

pub returns-clause-made : goal.returns-clause-made
returns-clause-made c =
    let r = c.requires.passes in
    let all : c.loop-place.place ≡ length c.args.locks.now.items = search rules in
    (row_split label_of r.0 c.args.locks.now.items c.args.row.now.items r.1 _ _ _ all
    c.loop-place.invariant.split).split
