use Rattle.std.proofs.Common.{sym, subst, rules, ◌<◌, length, take}
use Rattle.std.proofs.lemmas.List.{take_more}
use Rattle.place_rows.specs.Opening.{IsDealt}
use Rattle.place_rows.proofs.NewPlaces.{fresh_at}
use Rattle.place_rows.proofs.opening.deal_ports.Goals as goal

pub deal_port-requires-clause-new : goal.deal_port-requires-clause-new
deal_port-requires-clause-new c =
    let few : c.loop-port.port-index < length c.args.ports.now = search rules in (
      take c.loop-port.port-index c.args.ports.now,
      c.loop-port.invariant,
      fresh_at c.args.ports.now c.loop-port.port-index 0 c.requires.distinct few,
    )

pub loop-port-preserved : goal.loop-port-preserved
loop-port-preserved c =
    let i = c.loop-port.port-index in
    let few : i < length c.args.ports.now = search rules in
    subst (λ ports. IsDealt c.args.places c.args.mail ports c.deal_port.new.dealt)
    (sym (take_more c.args.ports.now i 0 few))
    (c.in_ok-deal_port.ensures.more (take i c.args.ports.now) c.loop-port.invariant
    (fresh_at c.args.ports.now i 0 c.requires.distinct few))
