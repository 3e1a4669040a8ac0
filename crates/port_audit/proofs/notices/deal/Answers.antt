use Rattle.std.proofs.Common.{◌≡◌, [], rules}
use Rattle.port_audit.specs.Noticing.{visits_by}
use Rattle.port_audit.proofs.RowsOfOnePort.{growing_begun, growing_on, growing_done}
use Rattle.port_audit.proofs.notices.deal.Goals as goal

pub loop-did-init : goal.loop-did-init
loop-did-init c =
    growing_begun c.args.port visits_by c.args.dids.now _ c.args.rows.now
    c.into_iter-did-iterator.ensures.into_iter_gives

pub loop-did-preserved : goal.loop-did-preserved
loop-did-preserved c =
    growing_on c.args.port visits_by c.args.dids.now c.loop-did.did-iterator c.next.new.self
    c.in-Some.did.now c.args.rows.now c.loop-did.rows c.deal_one.new.rows c.in-Some.ensures.steps
    c.in_ok-deal_one.ensures.grows c.in_ok-deal_one.ensures.kept c.loop-did.invariant

pub returns-clause-grows : goal.returns-clause-grows
returns-clause-grows c =
    let none : c.loop-did.did-iterator ≡ [] = search rules in
    growing_done c.args.port visits_by c.args.dids.now c.loop-did.did-iterator c.args.rows.now
    c.loop-did.rows none c.loop-did.invariant

pub returns-clause-kept : goal.returns-clause-kept
returns-clause-kept c = c.loop-did.invariant.kept
