use Rattle.std.proofs.Common.{refl, subst}
use Rattle.log_audit.specs.Stays.{known_in}
use Rattle.log_audit.proofs.PortSequence.{IsWalkedAt, on_in, stopped_in}
use Rattle.log_audit.proofs.judging.walk_all.Goals as goal

pub returns-in-None : goal.returns-in-None
returns-in-None c =
    let script = c.args.script.now in
    let h = c.args.histories.now in
    let ports = c.ports-port-items.result.now in
    stopped_in script h ports c.loop-place.place c.ports-port-items.ensures.value
    (c.each_port_has_its_place.ensures script c.ports-port-items.ensures.facts.ports_differ)
    c.loop-place-test.true
    (subst (IsWalkedAt script h ports c.loop-place.place) c.in-None.is
    (c.in_ok-of_port.ensures (known_in h.entries) c.requires))

pub loop-place-preserved : goal.loop-place-preserved
loop-place-preserved c =
    let script = c.args.script.now in
    let h = c.args.histories.now in
    let ports = c.ports-port-items.result.now in
    on_in script h ports c.loop-place.place c.loop-place.kinds.items c.push.new.self.items _
    c.ports-port-items.ensures.value
    (c.each_port_has_its_place.ensures script c.ports-port-items.ensures.facts.ports_differ)
    c.in_ok-push-in-Some.ensures.items c.loop-place-test.true refl
    (subst (IsWalkedAt script h ports c.loop-place.place) c.in-Some.is
    (c.in_ok-of_port.ensures (known_in h.entries) c.requires)) c.loop-place.invariant
