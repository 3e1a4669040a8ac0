use Rattle.std.proofs.Common.{◌∙◌, List, [], ◌∷◌, ◌++◌, ap, subst, sym, take}
use Rattle.std.proofs.lemmas.List.{take_more}
use Rattle.std.specs.BTreeMap.{is_at}
use Rattle.std.specs.Map.{lookup}
use Rattle.port_audit.specs.declared.dealing.MessageKind.{MessageKind}
use Rattle.port_audit.specs.declared.dealing.Side.{Side}
use Rattle.port_audit.specs.declared.kinds.KindAt.{KindAt}
use Rattle.port_audit.specs.Dealing.{GrowsBy, side_cmp}
use Rattle.port_audit.specs.Kinds.{kinds_in}
use Rattle.log_audit.specs.Judged.{AreDealt}
use Rattle.log_audit.specs.declared.judging.PortKinds.{PortKinds}
use Rattle.log_audit.proofs.RequestRows.{none_dealt, dealt_on}
use Rattle.log_audit.proofs.judging.deal_all.Goals as goal

pub loop-one-init : goal.loop-one-init
loop-one-init c =
    none_dealt c.new-rows.result
    (λ s. ap (λ (es : List (Side × List MessageKind)). lookup (is_at (side_cmp s)) es)
    c.new-rows.ensures.empty)

pub loop-one-preserved : goal.loop-one-preserved
loop-one-preserved c =
    let ports = c.args.ports.now in
    let at = c.loop-one.one-index in
    let one = c.one-item.result in
    let next = take_more ports at one c.loop-one-test.true
    ∙ ap (λ (k : PortKinds). take at ports ++ k ∷ []) (sym c.one-item.is) in
    let Grows : List KindAt → Type 0 = λ rs.
    GrowsBy one.port (λ queue. kinds_in queue rs) c.loop-one.rows c.deal_kinds.new.rows in
    let Dealt : List PortKinds → Type 0 = λ ks. AreDealt ks c.deal_kinds.new.rows in
    subst Dealt (sym next)
    (dealt_on (take at ports) one c.loop-one.rows c.deal_kinds.new.rows c.loop-one.invariant
    (subst Grows c.deref.ensures.value c.in_ok-deal_kinds.ensures.grows)
    c.in_ok-deal_kinds.ensures.kept)
