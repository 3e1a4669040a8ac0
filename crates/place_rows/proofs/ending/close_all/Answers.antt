use Rattle.std.proofs.Common.{sym, length}
use Rattle.turn_lock.specs.Passes.{view_of}
use Rattle.locked_place.specs.Views.{label_of}
use Rattle.place_rows.proofs.Lists.{prefix_self, less_one}
use Rattle.place_rows.proofs.RowPasses.{as_many}
use Rattle.place_rows.proofs.PlaceEnds.{last_pass}
use Rattle.place_rows.proofs.ending.close_all.Goals as goal

pub loop-lock-init : goal.loop-lock-init
loop-lock-init c =
    let r = c.requires.row in
    record {
      locks = prefix_self c.args.locks.items;
      row = prefix_self c.args.row.items;
      as_many = sym (as_many label_of r.0 c.args.locks.items c.args.row.items r.1);
    }

pub close-requires-clause-lock : goal.close-requires-clause-lock
close-requires-clause-lock c =
    let r = c.requires.row in
    (last_pass r.0 c.args.row.items c.loop-lock.row.items c.pop-in-Some.new.self.items
    c.args.locks.items c.loop-lock.locks.items c.pop.new.self.items c.in-Some.lock
    c.in-Some-pop.pass r.1 c.loop-lock.invariant.locks c.loop-lock.invariant.row
    c.in-Some.ensures.items c.in-Some-pop.ensures.items c.loop-lock.invariant.as_many).of.of

pub close-requires-clause-whole : goal.close-requires-clause-whole
close-requires-clause-whole c =
    let r = c.requires.row in
    let last = last_pass r.0 c.args.row.items c.loop-lock.row.items
    c.pop-in-Some.new.self.items c.args.locks.items c.loop-lock.locks.items
    c.pop.new.self.items c.in-Some.lock c.in-Some-pop.pass r.1 c.loop-lock.invariant.locks
    c.loop-lock.invariant.row c.in-Some.ensures.items c.in-Some-pop.ensures.items
    c.loop-lock.invariant.as_many in
    c.requires.whole (length c.pop.new.self.items) (view_of c.in-Some-pop.pass) last.at

pub close-requires-clause-outside : goal.close-requires-clause-outside
close-requires-clause-outside c =
    let r = c.requires.row in
    (last_pass r.0 c.args.row.items c.loop-lock.row.items c.pop-in-Some.new.self.items
    c.args.locks.items c.loop-lock.locks.items c.pop.new.self.items c.in-Some.lock
    c.in-Some-pop.pass r.1 c.loop-lock.invariant.locks c.loop-lock.invariant.row
    c.in-Some.ensures.items c.in-Some-pop.ensures.items c.loop-lock.invariant.as_many).of.outside

pub loop-lock-preserved : goal.loop-lock-preserved
loop-lock-preserved c =
    let r = c.requires.row in
    let inv = c.loop-lock.invariant in
    record {
      locks = less_one c.args.locks.items c.loop-lock.locks.items c.pop.new.self.items
          c.in-Some.lock inv.locks c.in-Some.ensures.items;
      row = less_one c.args.row.items c.loop-lock.row.items c.pop-in-Some.new.self.items
          c.in-Some-pop.pass inv.row c.in-Some-pop.ensures.items;
      as_many = (last_pass r.0 c.args.row.items c.loop-lock.row.items
          c.pop-in-Some.new.self.items c.args.locks.items c.loop-lock.locks.items
          c.pop.new.self.items c.in-Some.lock c.in-Some-pop.pass r.1 inv.locks inv.row
          c.in-Some.ensures.items c.in-Some-pop.ensures.items inv.as_many).many;
    }
