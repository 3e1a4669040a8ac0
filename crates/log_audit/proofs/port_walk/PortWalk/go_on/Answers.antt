use Rattle.std.proofs.Common.{subst, sym}
use Rattle.std.specs.Prelude.{IfOk}
use Rattle.log_audit.specs.PortWalks.{IsTold, Steps, walk_of}
use Rattle.log_audit.proofs.port_walk.PortWalk.go_on.Goals as goal

pub returns-in-Received-clause-steps : goal.returns-in-Received-clause-steps
returns-in-Received-clause-steps c =
    λ known are.
    let at = c.in-Received in
    subst (λ d. IfOk c.receive.result (Steps known c.args.script.now c.args.place c.args.port d
    (walk_of c.args.self.now) (walk_of c.receive.new.self))) (sym at.is)
    (c.receive.ensures.steps known at.queue at.number at.visit
    (subst (IsTold (known at.queue at.number at.visit)) (sym c.get.ensures.value)
    (are at.queue at.number at.visit)))

pub returns-in-Sent-clause-steps : goal.returns-in-Sent-clause-steps
returns-in-Sent-clause-steps c =
    λ known are.
    subst (λ d. IfOk c.send.result (Steps known c.args.script.now c.args.place c.args.port d
    (walk_of c.args.self.now) (walk_of c.send.new.self))) (sym c.in-Sent.is)
    (c.send.ensures.steps known c.args.script.now c.args.place c.in-Sent.answer)

pub returns-in-Closed-clause-steps : goal.returns-in-Closed-clause-steps
returns-in-Closed-clause-steps c =
    λ known are.
    subst (λ d. IfOk c.close.result (Steps known c.args.script.now c.args.place c.args.port d
    (walk_of c.args.self.now) (walk_of c.close.new.self))) (sym c.in-Closed.is)
    (c.close.ensures.steps known c.args.script.now c.args.place)
