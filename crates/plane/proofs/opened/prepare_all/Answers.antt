use Rattle.std.proofs.Common.{List, sym, subst}
use Rattle.place_rows.specs.Lists.{Every}
use Rattle.plane.specs.declared.opened.Unfilled.{Unfilled}
use Rattle.plane.specs.Filling.{IsReady, IsUnheard}
use Rattle.plane.proofs.RowSplits.{every_more, one_prepared}
use Rattle.plane.proofs.opened.prepare_all.Goals as goal

pub prepare-requires : goal.prepare-requires
prepare-requires c = record {
  unheard = (subst (Every IsUnheard) c.in-Some.ensures.steps.0 c.loop-receiver.invariant.rest).0;
}

pub loop-receiver-preserved : goal.loop-receiver-preserved
loop-receiver-preserved c =
    let inv = c.loop-receiver.invariant in
    record {
      ready = subst (Every (IsReady c.args.places c.args.ports.now))
          (sym {A = List Unfilled} c.in_ok-push.ensures.items)
          (every_more (IsReady c.args.places c.args.ports.now) c.loop-receiver.all.items _
          inv.ready c.in_ok-unfilled.ensures.ready);
      same = one_prepared _ _ _ _ _ _ _ inv.same c.in-Some.ensures.steps.0
          c.in_ok-unfilled.ensures.same c.in_ok-push.ensures.items;
      rest = (subst (Every IsUnheard) c.in-Some.ensures.steps.0 inv.rest).1;
    }
