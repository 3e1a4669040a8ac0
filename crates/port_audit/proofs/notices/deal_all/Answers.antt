use Rattle.std.proofs.Common.{ℕ, List, ap, get_or, take_all, subst, arith, length, ◌≤◌}
use Rattle.std.specs.BTreeMap.{is_at}
use Rattle.std.specs.Map.{lookup}
use Rattle.std.proofs.lemmas.List.{take_more}
use Rattle.port_audit.specs.declared.notices.Visit.{Visit}
use Rattle.port_audit.specs.declared.dealing.Side.{Side}
use Rattle.port_audit.specs.Dealing.{side_cmp, AreDealt}
use Rattle.port_audit.specs.Noticing.{visits_told}
use Rattle.port_audit.proofs.RowsOfAllPorts.{none_dealt, dealt_next}
use Rattle.port_audit.proofs.notices.deal_all.Goals as goal

pub loop-port-init : goal.loop-port-init
loop-port-init c =
    none_dealt (visits_told c.args.logs.now) c.new-rows.result
    (λ s. ap (λ (es : List (Side × List Visit)). lookup (is_at (side_cmp s)) es)
    c.new-rows.ensures.empty)

pub loop-port-preserved : goal.loop-port-preserved
loop-port-preserved c =
    let ports = c.args.ports.now in
    let at = c.loop-port.port-index in
    dealt_next (visits_told c.args.logs.now) ports at (get_or ports at 0) c.loop-port.rows
    c.deal_log.new.rows c.requires.differ (take_more ports at 0 c.loop-port-test.true)
    c.loop-port.invariant c.in_ok-deal_log.ensures.grows c.in_ok-deal_log.ensures.kept

pub returns : goal.returns
returns c =
    let ports = c.args.ports.now in
    let behind : length ports ≤ c.loop-port.port-index = omega arith in
    subst (λ (ps : List ℕ). AreDealt ps (visits_told c.args.logs.now) c.loop-port.rows)
    (take_all c.loop-port.port-index ports behind) c.loop-port.invariant
