use Rattle.std.proofs.Common.{◌≡◌, sym, ap, subst, map, arith, length, List, ◌∷◌, []}
use Rattle.std.proofs.lemmas.List.{length-append, nil_from_length}
use Rattle.std.specs.Vec.Iter.{into_iter_items}
use Rattle.turn_lock.specs.Passes.{view_of}
use Rattle.place_rows.specs.Lists.{Every}
use Rattle.place_rows.specs.Rows.{label_at, id_of, known_of}
use Rattle.plane.specs.Filling.{IsReady}
use Rattle.plane.specs.Remaining.{IsRowOf}
use Rattle.plane.proofs.RowSplits.{Laws, none_filled, one_filled, all_filled, every_more}
use Rattle.plane.proofs.RowSplits.{rows_normal, FilledSo}
use Rattle.plane.specs.declared.opened.Unfilled.{Unfilled}
use Rattle.plane.proofs.opened.fill_all.Goals as goal

pub loop-one-init : goal.loop-one-init
loop-one-init c =
    let gives : into_iter_items c.into_iter-one-iterator.result ≡ c.args.unfilled.items =
    c.into_iter-one-iterator.ensures.into_iter_gives.0 in
    record {
      rows = λ named are. (
        are,
        subst (Every (IsRowOf (map id_of c.args.locks.now.items) named))
            (sym c.requires.room.0) tt,
      );
      ready = λ places ports all. subst (Every (IsReady places ports)) (sym gives) all;
      room = omega (arith, c.requires.room.1, ap length c.requires.room.0, ap length gives);
      so = subst
          (λ (l : List Unfilled). FilledSo (known_of (map view_of c.args.row.now.items))
          (known_of (map view_of c.args.row.now.items)) c.args.unfilled.items l c.args.passes.items)
          (sym gives)
          (none_filled (known_of (map view_of c.args.row.now.items)) c.args.unfilled.items
          c.args.passes.items c.requires.room.0);
    }

pub fill-pass-requires : goal.fill-pass-requires
fill-pass-requires c =
    let inv = c.loop-one.invariant in
    let r = c.requires.ready in
    record {
      ready = (
        r.0,
        r.1,
        (inv.rows (label_at r.0) r.2).0,
        r.3,
        r.4,
        (subst (Every (IsReady r.0.board.places r.1)) c.in-Some.ensures.steps.0
            (inv.ready r.0.board.places r.1 r.5)).0,
      );
      unused = (inv.so.unused c.requires.unused).0;
    }

pub push_reserved-requires : goal.push_reserved-requires
push_reserved-requires c =
    omega (
      arith,
      c.loop-one.invariant.room,
      ap length c.in-Some.ensures.steps.0,
    )

pub loop-one-preserved : goal.loop-one-preserved
loop-one-preserved c =
    let laws : Laws =
    record {
      sides = c.parts_are_put_together_in_any_order.ensures.sides;
      order = c.parts_are_put_together_in_any_order.ensures.order;
      back = c.parts_are_put_together_in_any_order.ensures.back;
      both = c.a_part_is_known_by_its_ways.ensures.union;
      pieces = c.a_part_is_known_by_its_ways.ensures.pieces;
    } in
    let inv = c.loop-one.invariant in
    let r = c.requires.ready in
    let passes = c.loop-one.passes.items in
    let split = c.in-Some.ensures.steps.0 in
    let named = label_at r.0 in
    let are = inv.rows named r.2 in
    record {
      rows = λ name all.
          let was = inv.rows name all in
          let now = c.fill-pass.ensures.rows name was.0 in (
            now.0,
            subst (Every (IsRowOf (map id_of c.args.locks.now.items) name))
                (sym c.push_reserved.ensures.items)
                (every_more (IsRowOf (map id_of c.args.locks.now.items) name) passes
                c.fill-pass.result was.1 now.1),
          );
      ready = λ places ports all.
          (subst (Every (IsReady places ports)) split (inv.ready places ports all)).1;
      room = omega (
        arith,
        inv.room,
        ap length split,
        ap length c.push_reserved.ensures.items,
        length-append passes (c.fill-pass.result ∷ []),
        c.push_reserved.ensures.capacity,
      );
      so = one_filled laws named (known_of (map view_of c.args.row.now.items))
          (known_of (map view_of c.loop-one.row.items))
          (known_of (map view_of c.fill-pass.new.row.items))
          c.args.unfilled.items (into_iter_items c.loop-one.one-iterator) _ c.in-Some.one passes
          c.push_reserved.new.self.items c.fill-pass.result inv.so split
          (c.rows_know_the_same_without_times.ensures.known named
          (map view_of c.loop-one.row.items) are.0.known)
          (rows_normal (map id_of c.args.locks.now.items) named passes are.1)
          c.fill-pass.ensures.kept c.fill-pass.ensures.split c.fill-pass.ensures.filled
          c.push_reserved.ensures.items;
    }

pub returns-clause-rows : goal.returns-clause-rows
returns-clause-rows c = λ named are.
    let all = c.loop-one.invariant.rows named are in (
      all.0,
      subst (Every (IsRowOf (map id_of c.args.locks.now.items) named))
          (sym c.from_vec.ensures) all.1,
    )

pub returns-clause-whole : goal.returns-clause-whole
returns-clause-whole c = λ places whole.
    rw c.from_vec.ensures (c.loop-one.invariant.so.whole places whole)

pub returns-clause-unused : goal.returns-clause-unused
returns-clause-unused c =
    rw c.from_vec.ensures (c.loop-one.invariant.so.unused c.requires.unused)

pub returns-clause-receivers : goal.returns-clause-receivers
returns-clause-receivers c =
    let none : into_iter_items c.loop-one.one-iterator ≡ [] =
    nil_from_length (into_iter_items c.loop-one.one-iterator)
    (omega (arith, c.in-None.ensures.steps.0)) in
    rw c.from_vec.ensures
    (all_filled _ _ c.args.unfilled.items _ c.loop-one.passes.items c.loop-one.invariant.so none)

pub returns-clause-nothing : goal.returns-clause-nothing
returns-clause-nothing c = rw c.from_vec.ensures c.loop-one.invariant.so.nothing
