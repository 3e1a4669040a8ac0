use Rattle.std.proofs.Common.{◌∙◌, ap, refl}
use Rattle.log_audit.specs.Walking.{settled}
use Rattle.log_audit.specs.Dues.{dues_of}
use Rattle.log_audit.specs.PortWalks.{walk_of}
use Rattle.log_audit.proofs.WalkSteps.{sent_at_end}
use Rattle.log_audit.proofs.port_walk.PortWalk.send.Goals as goal

pub returns-then-is_empty-clause-steps : goal.returns-then-is_empty-clause-steps
returns-then-is_empty-clause-steps c =
    λ known script place answer.
    let self = c.args.self.now in
    sent_at_end known script place c.args.port (walk_of self) (walk_of c.send_at_end.new.self)
    (dues_of c.settle.new.self) c.args.call c.args.ask.now answer
    (c.in_ok-settle.ensures.settled
    ∙ ap (λ n. settled c.args.port n (dues_of self.owed)) c.if-call-self.false)
    (c.if-is_empty.ensures.0 refl) c.send_at_end.result
    (c.send_at_end.ensures.steps known script place answer)
