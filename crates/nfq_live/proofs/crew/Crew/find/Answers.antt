use Rattle.std.proofs.Common.{arith, refl, sym, ◌∙◌}
use Rattle.nfq_live.proofs.PortNumbers.{found_at, nowhere}
use Rattle.nfq_live.proofs.crew.Crew.find.Goals as goal

pub returns-then-port-clause-found : goal.returns-then-port-clause-found
returns-then-port-clause-found c = (
  λ yes. found_at c.args.self.now.ports.items c.args.port c.loop-at.at c.index.result.now
      (omega (arith, c.loop-at-test.true, c.len-at-end.ensures)) c.index.ensures
      (omega (arith, c.port.ensures, c.if-port.true)),
  λ there. refl,
)

pub returns-clause-found : goal.returns-clause-found
returns-clause-found c =
    let none = nowhere c.args.self.now.ports.items c.args.port (λ i d less.
    c.loop-at.invariant.none i d
    (omega (arith, less, c.loop-at-test.false, c.len-at-end.ensures))) in
    (λ wrong. absurd (cc wrong), λ there. sym none ∙ there)
