use Rattle.std.proofs.Common.{◌≡◌, ap, ◌∙◌, sym, subst, arith, map, length, ◌∷◌, []}
use Rattle.std.specs.Prelude.{option_map, slice_get}
use Rattle.std.proofs.lemmas.List.{length-append, length-map}
use Rattle.std.proofs.lemmas.Option.{slice_get-map}
use Rattle.turn_lock.specs.Passes.{view_of}
use Rattle.locked_place.specs.Views.{label_of}
use Rattle.place_rows.specs.Joining.{RowJoined, Joins}
use Rattle.place_rows.specs.Rows.{TurnsOne}
use Rattle.place_rows.proofs.Lists.{prefix_self, prefix_length, last_of, less_one}
use Rattle.place_rows.proofs.RowPasses.{as_many, pass_at}
use Rattle.place_rows.proofs.RowJoins.{row_none, row_step}
use Rattle.place_rows.proofs.rows.join_row.Goals as goal

pub loop-pass-init : goal.loop-pass-init
loop-pass-init c =
    let r = c.requires.passes in
    record {
      into = λ named row. row;
      from = prefix_self c.args.from.items;
      joined = subst (λ n. RowJoined n (map view_of c.args.into.now.items)
          (map view_of c.args.from.items) (map view_of c.args.into.now.items))
          (length-map c.args.from.items view_of)
          (row_none (map view_of c.args.into.now.items) (map view_of c.args.from.items)
          (length-map c.args.from.items view_of
          ∙ as_many label_of r.0 c.args.locks.now.items c.args.from.items r.2
          ∙ sym (as_many label_of r.0 c.args.locks.now.items c.args.into.now.items r.1)
          ∙ sym (length-map c.args.into.now.items view_of)));
    }

pub join_at-requires-clause-there : goal.join_at-requires-clause-there
join_at-requires-clause-there c =
    let r = c.requires.passes in
    omega (
      arith,
      c.len-place.ensures,
      ap length c.in-Some.ensures.items,
      length-append c.pop.new.self.items (c.in-Some.pass ∷ []),
      prefix_length _ _ c.loop-pass.invariant.from,
      as_many label_of r.0 c.args.locks.now.items c.args.from.items r.2,
    )

pub join_at-requires-clause-passes : goal.join_at-requires-clause-passes
join_at-requires-clause-passes c =
    let r = c.requires.passes in
    let is : c.len-place.result ≡ length c.pop.new.self.items = omega (arith, c.len-place.ensures)
    in (
      r.0,
      c.loop-pass.invariant.into r.0 r.1,
      pass_at label_of r.0 c.args.locks.now.items c.args.from.items c.len-place.result
          c.in-Some.pass r.2
          (ap (slice_get c.args.from.items) is
          ∙ last_of c.args.from.items c.loop-pass.from.items c.pop.new.self.items c.in-Some.pass
          c.loop-pass.invariant.from c.in-Some.ensures.items),
    )

pub loop-pass-preserved : goal.loop-pass-preserved
loop-pass-preserved c =
    let inv = c.loop-pass.invariant in
    let is : c.len-place.result ≡ length c.pop.new.self.items = omega (arith, c.len-place.ensures)
    in
    let at = last_of c.args.from.items c.loop-pass.from.items c.pop.new.self.items c.in-Some.pass
    inv.from c.in-Some.ensures.items in
    record {
      into = λ named row. c.join_at.ensures.passes named (inv.into named row);
      from = less_one c.args.from.items c.loop-pass.from.items c.pop.new.self.items
          c.in-Some.pass inv.from c.in-Some.ensures.items;
      joined = row_step (length c.pop.new.self.items) _ _ _ _ (view_of c.in-Some.pass)
          (subst (λ n. RowJoined n (map view_of c.args.into.now.items) (map view_of
          c.args.from.items)
          (map view_of c.loop-pass.into.items))
          (ap length c.in-Some.ensures.items
          ∙ length-append c.pop.new.self.items (c.in-Some.pass ∷ [])) inv.joined)
          (slice_get-map view_of c.args.from.items (length c.pop.new.self.items)
          ∙ ap (option_map view_of) at)
          (subst (λ n. TurnsOne n (map view_of c.loop-pass.into.items) (map view_of
          c.join_at.new.into.items)
          (Joins (view_of c.in-Some.pass))) is c.join_at.ensures.joins);
    }
