use Rattle.std.proofs.Common.{◌≡◌, ◌<◌, ◌∙◌, ap, refl, rules, length, List}
use Rattle.histories.specs.declared.log.PortLog.{PortLog}
use Rattle.plane.specs.Remaining.{dids_in}
use Rattle.plane.proofs.PlaneEnd.{one_before, found_here, found_nowhere, others_kept}
use Rattle.plane.proofs.PlaneEnd.{same_at}
use Rattle.plane.proofs.finish.take_dids.Goals as goal

pub loop-i-init : goal.loop-i-init
loop-i-init c = record { same = refl; none = record { split = refl } }

pub loop-i-preserved : goal.loop-i-preserved
loop-i-preserved c = record {
  same = c.loop-i.invariant.same;
  none = one_before c.args.port c.loop-i.i c.loop-i.logs.items c.index.result.now
      c.loop-i.invariant.none (search rules) c.index.ensures (search rules);
}

pub returns-then-index-port-clause-dids : goal.returns-then-index-port-clause-dids
returns-then-index-port-clause-dids c =
    let few : c.loop-i.i < length c.loop-i.logs.items = search rules in
    let same = same_at c.loop-i.logs.items c.loop-i.i c.index.result.now c.index_mut.result.now few
    c.index.ensures c.index_mut.ensures.value in
    let port : c.index.result.now.port ≡ c.args.port = search rules in
    c.replace.ensures.value ∙ found_here c.args.port c.loop-i.i c.loop-i.logs.items c.index_mut.result.now
    c.loop-i.invariant.none few c.index_mut.ensures.value
    (ap (λ (l : PortLog). l.port) same ∙ port)
    ∙ ap (λ (ls : List PortLog). dids_in ls c.args.port) c.loop-i.invariant.same

pub returns-then-index-port-clause-others : goal.returns-then-index-port-clause-others
returns-then-index-port-clause-others c = λ q differ.
    let few : c.loop-i.i < length c.loop-i.logs.items = search rules in
    let same = same_at c.loop-i.logs.items c.loop-i.i c.index.result.now c.index_mut.result.now few
    c.index.ensures c.index_mut.ensures.value in
    let port : c.index.result.now.port ≡ c.args.port = search rules in
    others_kept c.loop-i.logs.items c.loop-i.i c.index_mut.result.now _ few
    c.index_mut.ensures.value refl q
    (λ (e : q ≡ c.index_mut.result.now.port). differ (e ∙ ap (λ (l : PortLog). l.port) same ∙ port))
    ∙ ap (λ (ls : List PortLog). dids_in ls q) c.loop-i.invariant.same

pub returns-clause-dids : goal.returns-clause-dids
returns-clause-dids c =
    c.new-2.ensures
    ∙ found_nowhere c.args.port c.loop-i.i c.loop-i.logs.items c.loop-i.invariant.none
    (search rules)
    ∙ ap (λ (ls : List PortLog). dids_in ls c.args.port) c.loop-i.invariant.same
