use Rattle.std.proofs.Common.{◌∙◌, sym}
use Rattle.order_audit.proofs.Walks.{log_passed, on_ok}
use Rattle.order_audit.proofs.order.look_at_port.Goals as goal

pub returns-in_ok-pass : goal.returns-in_ok-pass
returns-in_ok-pass c =
    let is = log_passed c.args.histories.now c.args.walk.now c.pass.new.self c.args.port
    c.requires (sym c.can_pass.ensures ∙ c.if-can_pass.true) c.in_ok-pass.ensures in
    on_ok c.passed.result is
