use Rattle.std.proofs.Common.{List, ℕ, ◌<◌, ◌^◌, subst}
use Rattle.std.specs.Prelude.{All}
use Rattle.log_audit.proofs.PortSequence.{judgement}
use Rattle.log_audit.proofs.judging.judge_ports.Goals as goal

pub returns : goal.returns
returns c =
    let facts = c.ports-ports.ensures.facts in
    let Fit : List ℕ → Type 0 = λ ps. All (λ p. p < 2 ^ 32) ps in
    λ ones. judgement c.logs_tell_what_ports_did.ensures.words c.a_walked_log_is_told.ensures
    c.a_log_is_walked.ensures.walked c.a_log_is_walked.ensures.kinds c.args.script.now c.args.histories.now facts
    (c.each_port_has_its_place.ensures c.args.script.now facts.ports_differ)
    (subst Fit c.ports-ports.ensures.value c.ports_fit.ensures) ones c.walk_all.result
    c.walk_all.ensures
