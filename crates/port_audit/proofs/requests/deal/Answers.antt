use Rattle.std.proofs.Common.{◌≡◌, [], List, ap, sym, ◌∙◌, rules}
use Rattle.std.specs.Prelude.{◌&&◌}
use Rattle.std.specs.List.{list_all}
use Rattle.histories.specs.declared.log.Did.{Did}
use Rattle.port_audit.specs.Pleading.{pleas_by_did, is_good}
use Rattle.port_audit.proofs.RowsOfOnePort.{growing_begun, growing_on, growing_done}
use Rattle.port_audit.proofs.requests.deal.Goals as goal

pub loop-did-init : goal.loop-did-init
loop-did-init c = (
  growing_begun c.args.port (pleas_by_did c.args.port) c.args.dids.now _ c.args.rows.now
      c.into_iter-did-iterator.ensures.into_iter_gives,
  ap (λ (ds : List Did). list_all (is_good c.args.port) ds)
      c.into_iter-did-iterator.ensures.into_iter_gives,
)

pub loop-did-preserved-then-good : goal.loop-did-preserved-then-good
loop-did-preserved-then-good c =
    let good = is_good c.args.port in
    let rest = list_all good c.next.new.self in (
      growing_on c.args.port (pleas_by_did c.args.port) c.args.dids.now c.loop-did.did-iterator
          c.next.new.self c.in-Some.did.now c.args.rows.now c.loop-did.rows c.deal_one.new.rows
          c.in-Some.ensures.steps c.in_ok-is.ensures.grows c.in_ok-is.ensures.kept
          c.loop-did.invariant.0,
      ap (λ b. b && rest) c.in_ok-is.ensures.good
          ∙ sym (ap (λ b. b && (good c.in-Some.did.now && rest)) c.if-good.true)
          ∙ sym (ap (λ (ds : List Did). c.loop-did.good && list_all good ds)
          c.in-Some.ensures.steps)
          ∙ c.loop-did.invariant.1,
    )

pub loop-did-preserved : goal.loop-did-preserved
loop-did-preserved c =
    let good = is_good c.args.port in (
      growing_on c.args.port (pleas_by_did c.args.port) c.args.dids.now c.loop-did.did-iterator
          c.next.new.self c.in-Some.did.now c.args.rows.now c.loop-did.rows c.deal_one.new.rows
          c.in-Some.ensures.steps c.in_ok-is.ensures.grows c.in_ok-is.ensures.kept
          c.loop-did.invariant.0,
      ap (λ b. b && list_all good c.next.new.self) c.if-good.false
          ∙ sym (ap (λ b. b && list_all good c.loop-did.did-iterator) c.if-good.false)
          ∙ c.loop-did.invariant.1,
    )

pub returns-clause-grows : goal.returns-clause-grows
returns-clause-grows c =
    let none : c.loop-did.did-iterator ≡ [] = search rules in
    growing_done c.args.port (pleas_by_did c.args.port) c.args.dids.now c.loop-did.did-iterator
    c.args.rows.now c.loop-did.rows none c.loop-did.invariant.0

pub returns-clause-kept : goal.returns-clause-kept
returns-clause-kept c = c.loop-did.invariant.0.kept
