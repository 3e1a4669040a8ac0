use Rattle.std.proofs.Common.{sym, subst, rules, ◌<◌, length, take, get_or}
use Rattle.std.proofs.lemmas.List.{take_more}
use Rattle.plane.specs.Filling.{AreZero}
use Rattle.plane.proofs.RowSplits.{none_counted, one_zero_more}
use Rattle.plane.proofs.opened.zero_counts.Goals as goal

pub loop-port-init : goal.loop-port-init
loop-port-init c = none_counted c.new-counts.result c.new-counts.ensures.empty

pub loop-port-preserved : goal.loop-port-preserved
loop-port-preserved c =
    let i = c.loop-port.port-index in
    let few : i < length c.args.ports.now = search rules in
    subst (λ ports. AreZero ports c.put_zero.new.counts) (sym (take_more c.args.ports.now i 0 few))
    (one_zero_more (take i c.args.ports.now) (get_or c.args.ports.now i 0) c.loop-port.counts
    c.put_zero.new.counts c.loop-port.invariant c.in_ok-put_zero.ensures.own
    c.in_ok-put_zero.ensures.others)
