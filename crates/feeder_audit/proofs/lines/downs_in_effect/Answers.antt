use Rattle.std.proofs.Common.{◌∙◌}
use Rattle.std.proofs.lemmas.Result.{IfOk-weaker}
use Rattle.feeder_audit.proofs.FrameNumbers.{in_effect}
use Rattle.feeder_audit.proofs.lines.downs_in_effect.Goals as goal

pub returns : goal.returns
returns c =
    IfOk-weaker c.downs_up_to.result _ _ (λ downs is.
    is ∙ in_effect c.args.script.now c.args.frames c.min.result c.lines_are_short.ensures
    c.min.ensures) c.downs_up_to.ensures
