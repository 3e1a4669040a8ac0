use Rattle.std.proofs.Common.{◌<◌, ◌≤◌, ◌∙◌, ap, refl, rules, length, map, get_or, List}
use Rattle.std.proofs.Common.{ℕ}
use Rattle.std.proofs.lemmas.List.{take_all}
use Rattle.plane.specs.Remaining.{log_in}
use Rattle.plane.proofs.PlaneEnd.{none_ordered, one_ordered}
use Rattle.plane.proofs.finish.in_order.Goals as goal

pub loop-port-init : goal.loop-port-init
loop-port-init c =
    none_ordered c.args.order.now c.args.logs.items _ c.requires.distinct c.new-ordered.ensures.items

pub loop-port-preserved : goal.loop-port-preserved
loop-port-preserved c =
    let i = c.loop-port.port-index in
    let few : i < length c.args.order.now = search rules in
    one_ordered i (get_or c.args.order.now i 0) c.args.order.now c.args.logs.items
    c.loop-port.logs.items c.take_dids-dids.new.logs.items c.loop-port.ordered.items
    c.push.new.self.items c.take_dids-dids.result c.loop-port.invariant few refl
    c.take_dids-dids.ensures.dids c.take_dids-dids.ensures.others c.in_ok-push.ensures.items

pub returns : goal.returns
returns c =
    let most : length c.args.order.now ≤ c.loop-port.port-index = search rules in
    c.from_vec.ensures ∙ c.loop-port.invariant.done
    ∙ ap (λ (l : List ℕ). map (log_in c.args.logs.items) l)
    (take_all c.loop-port.port-index c.args.order.now most)
