use Rattle.std.proofs.Common.{◌≤◌, ℕ, List, ap, get_or, take_all, subst, arith, length, sym, ◌∙◌}
use Rattle.std.proofs.Common.{refl, true≢false}
use Rattle.std.specs.BTreeMap.{is_at}
use Rattle.std.specs.Map.{lookup}
use Rattle.std.specs.Prelude.{nat_eq}
use Rattle.std.proofs.lemmas.Bool.{eq-eqb}
use Rattle.std.proofs.lemmas.List.{take_more}
use Rattle.std.proofs.lemmas.List.Folds.{list_any_at}
use Rattle.run_parts.specs.Requests.{Plea}
use Rattle.port_audit.specs.declared.dealing.Side.{Side}
use Rattle.port_audit.specs.Dealing.{side_cmp, AreDealt}
use Rattle.port_audit.specs.Pleading.{pleas_in_log, AllGood}
use Rattle.port_audit.proofs.RowsOfAllPorts.{none_dealt, dealt_next}
use Rattle.port_audit.proofs.ToldRequests.{none_good, good_on}
use Rattle.port_audit.proofs.requests.deal_all.Goals as goal

pub loop-port-init : goal.loop-port-init
loop-port-init c = (
  none_dealt (pleas_in_log c.args.logs.now) c.new-rows.result
      (λ s. ap (λ (es : List (Side × List Plea)). lookup (is_at (side_cmp s)) es)
      c.new-rows.ensures.empty),
  none_good c.args.logs.now,
)

pub returns-then-not-good : goal.returns-then-not-good
returns-then-not-good c all =
    let ports = c.args.ports.now in
    let at = c.loop-port.port-index in
    let port = get_or ports at 0 in
    true≢false (sym (all port (list_any_at (nat_eq port) ports at 0 c.loop-port-test.true
    (eq-eqb port port refl))) ∙ sym c.in_ok-good.ensures.good ∙ c.if-not-good.true)

pub loop-port-preserved : goal.loop-port-preserved
loop-port-preserved c =
    let ports = c.args.ports.now in
    let logs = c.args.logs.now in
    let at = c.loop-port.port-index in
    let port = get_or ports at 0 in
    let next = take_more ports at 0 c.loop-port-test.true in (
      dealt_next (pleas_in_log logs) ports at port c.loop-port.rows c.deal_log.new.rows
          c.requires.differ next c.loop-port.invariant.0 c.in_ok-good.ensures.grows c.in_ok-good.ensures.kept,
      subst (λ (ps : List ℕ). AllGood ps logs) (sym next)
          (good_on _ port logs c.loop-port.invariant.1
          (sym c.in_ok-good.ensures.good ∙ c.if-not-good.false)),
    )

pub returns : goal.returns
returns c =
    let ports = c.args.ports.now in
    let logs = c.args.logs.now in
    let behind : length ports ≤ c.loop-port.port-index = omega arith in
    let all = take_all c.loop-port.port-index ports behind in (
      subst (λ (ps : List ℕ). AllGood ps logs) all c.loop-port.invariant.1,
      subst (λ (ps : List ℕ). AreDealt ps (pleas_in_log logs) c.loop-port.rows) all
          c.loop-port.invariant.0,
    )
