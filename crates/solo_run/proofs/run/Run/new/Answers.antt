use Rattle.std.proofs.Common.{ap, List, ℕ, length}
use Rattle.solo_run.proofs.RunProgress.{goes_first, apart_ports}
use Rattle.solo_run.proofs.run.Run.new.Goals as goal

pub new-requires-clause-apart : goal.new-requires-clause-apart
new-requires-clause-apart c =
    rw c.ports-ports.ensures.value
    (apart_ports c.args.script.now.ports c.ports-ports.ensures.facts.ports_differ)

pub returns-clause-going : goal.returns-clause-going
returns-clause-going c =
    goes_first c.args.script.now _ _ c.in_ok-inspectors.inspectors.items _
    (rw c.ports-ports.ensures.value at c.in_ok-plane.ensures.world)
    (c.histories_stay_sound.ensures.begins _ c.args.script.now.ports)
    c.in_ok-inspectors.ensures.as_many (ap (λ (l : List ℕ). length l) c.ports-ports.ensures.value)
    c.in_ok-inspectors.ensures.each c.ports-ports.ensures.facts.ports_differ
