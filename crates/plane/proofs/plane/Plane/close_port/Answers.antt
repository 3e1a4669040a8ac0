use Rattle.std.proofs.Common.{List, [], refl, sym, subst}
use Rattle.histories.specs.declared.histories.Lost.{Lost}
use Rattle.place_rows.specs.Shares.{IsBalanced}
use Rattle.place_turns.specs.Timely.{port_with}
use Rattle.plane.specs.Planes.{setting_of}
use Rattle.plane.proofs.CallBalance.{closed_logged}
use Rattle.plane.proofs.plane.Plane.close_port.Goals as goal

pub close_port-requires : goal.close_port-requires
close_port-requires g c = record { of = (rw (← c.pass.view_is) at c.requires.pass).of }

pub invariant_of-result : goal.invariant_of-result
invariant_of-result g c =
    let port = c.pass.inside.port in
    let dids = c.pass.inside.log.dids.items in
    let heard = c.pass.inside.receiver.received in
    rw c.close.ensures (
      record { heard = closed_logged dids _ c.pass.invariant.0.logged.heard },
      c.passes_begin_and_end_timely.ensures.closed c.close_port.new.self.clock
          c.close_port.new.self.timed port dids heard
          (c.close_port.ensures.timely (port_with port dids heard) refl c.pass.invariant.1),
    )

pub returns-clause-pass : goal.returns-clause-pass
returns-clause-pass g c =
    let is = rw (← c.pass.view_is) at c.requires.pass in
    record {
      of = c.close_port.ensures.of;
      balanced = subst (λ (lost : List Lost). IsBalanced (setting_of c.args.self.now) []
          c.close_port.new.self.trail.known lost) (sym c.close_port.ensures.lost)
          (c.close_port.ensures.kept (setting_of c.args.self.now) [] _ is.balanced);
      mailbox = is.mailbox;
      alone = is.alone;
      unmailed = is.unmailed;
    }
