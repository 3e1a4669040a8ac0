use Rattle.std.proofs.Common.{◌<◌, ◌∙◌, ℕ, ap, length, subst, sym}
use Rattle.run_parts.specs.Ports.{place_in}
use Rattle.live_work.proofs.PortMinds.{mind_within}
use Rattle.live_work.proofs.pooling.inspect_by_pool.Goals as goal

pub new-requires-clause-has_port : goal.new-requires-clause-has_port
new-requires-clause-has_port g c κs within =
    subst (λ (k : ℕ). k < length c.args.stage.now.script.now.ports)
    (c.requires.mind.place
    ∙ sym (c.place_of-place.ensures
    ∙ ap (λ (p : ℕ). place_in p c.args.stage.now.script.now.ports) c.port.ensures))
    (mind_within c.args.stage.now.script.now c.args.pass.now c.args.mind.now c.requires.mind)
