use Rattle.std.proofs.Common.{◌≡◌, ◌∙◌, ◌∷◌, ap, sym, rules, map, []}
use Rattle.turn_lock.specs.Passes.{view_of}
use Rattle.place_rows.specs.Rows.{id_of}
use Rattle.plane.specs.Passes.{PortView}
use Rattle.plane.specs.Remaining.{IsRowOf, TimelyPass}
use Rattle.plane.proofs.PlaneEnd.{Laws, none_so, one_so, all_so, at_hand, added_too}
use Rattle.plane.proofs.PortStates.{timely_in}
use Rattle.plane.proofs.finish.join_ports.Goals as goal

pub loop-pass-init : goal.loop-pass-init
loop-pass-init g c = record {
  into = λ named are. are;
  so = rw c.into_iter-pass-iterator.ensures.into_iter_gives
      (none_so (map view_of c.args.into.now.items) c.args.remains.now c.args.ports);
}

pub join_passes-lost-requires : goal.join_passes-lost-requires
join_passes-lost-requires g c =
    let inv = c.loop-pass.invariant in
    let r = c.requires.passes in
    let is =
    rw (← c.pass.view_is) at
    (at_hand (IsRowOf (map id_of c.args.locks.now.items) r.0) _ _ _ _ _ c.args.ports
    c.loop-pass.pass-iterator c.next.new.self c.in-Some.pass r.2 inv.so c.in-Some.ensures.steps)
    in
    record { passes = (r.0, inv.into r.0 r.1, is.locks_are, is.known_so) }

pub loop-pass-preserved : goal.loop-pass-preserved
loop-pass-preserved g c =
    let laws : Laws =
    record {
      one = c.rows_are_joined_one_by_one.ensures.one;
      one_timed = c.rows_are_joined_one_by_one.ensures.one_timed;
    } in
    let passes = c.pass.inside.passes in
    let port : PortView =
    record {
      locks = passes.locks;
      trail = passes.trail;
      port = c.pass.inside.port;
      receiver = c.pass.inside.receiver;
      dids = c.pass.inside.log.dids.items;
    } in
    let t : TimelyPass =
    record {
      port = port;
      row = passes.timed;
      same = c.join_passes-lost.ensures.known;
      clock = passes.clock;
      timely = timely_in _ _ g.S.PortState.is_open c.pass.invariant;
    } in
    let inv = c.loop-pass.invariant in
    record {
      into = λ named are. c.join_passes-lost.ensures.passes named (inv.into named are);
      so = one_so laws (map view_of c.args.into.now.items)
          (map view_of c.loop-pass.into.items) (map view_of c.join_passes-lost.new.into.items)
          c.loop-pass.kept _ c.args.remains.now c.loop-pass.remains c.add.new.remains
          c.args.ports c.loop-pass.pass-iterator c.next.new.self t inv.so
          (c.in-Some.ensures.steps
          ∙ ap (λ (p : PortView). p ∷ c.next.new.self) (sym c.pass.view_is))
          c.join_passes-lost.ensures.joined c.join_passes-lost.ensures.timed
          (added_too c.loop-pass.kept _ _ _ _ _ _ _ _ _ c.add.result c.add.ensures
          c.into_dids.ensures c.join_passes-lost.ensures.lost c.is_ok-room.ensures.value);
    }

pub returns-clause-passes : goal.returns-clause-passes
returns-clause-passes g c = c.loop-pass.invariant.into

pub returns-clause-joined : goal.returns-clause-joined
returns-clause-joined g c =
    let none : c.loop-pass.pass-iterator ≡ [] = search rules in
    (all_so _ _ _ _ _ c.args.ports c.loop-pass.pass-iterator none c.loop-pass.invariant.so).joined

pub returns-clause-timely : goal.returns-clause-timely
returns-clause-timely g c =
    let none : c.loop-pass.pass-iterator ≡ [] = search rules in
    (all_so _ _ _ _ _ c.args.ports c.loop-pass.pass-iterator none c.loop-pass.invariant.so).timely

pub returns-clause-kept : goal.returns-clause-kept
returns-clause-kept g c =
    let none : c.loop-pass.pass-iterator ≡ [] = search rules in
    (all_so _ _ _ _ _ c.args.ports c.loop-pass.pass-iterator none c.loop-pass.invariant.so).added
