use Rattle.std.proofs.Common.{◌≡◌, rules}
use Rattle.place_turns.proofs.CountSums.{none_so_far, one_zero, all_zero}
use Rattle.place_turns.proofs.sharing.zeros.Goals as goal

pub loop-port-init : goal.loop-port-init
loop-port-init c =
    let all : c.into_iter-port-iterator.result ≡ c.args.counts.now.entries = search rules in
    none_so_far c.args.counts.now c.new-zeros.result c.into_iter-port-iterator.result
    c.new-zeros.ensures.empty all

pub loop-port-preserved : goal.loop-port-preserved
loop-port-preserved c =
    one_zero c.args.counts.now c.loop-port.zeros c.put_zero.new.counts c.in-Some.port.now
    _ c.loop-port.port-iterator _ c.loop-port.invariant c.in-Some.ensures.steps
    c.in_ok-put_zero.ensures.own c.in_ok-put_zero.ensures.others

pub returns : goal.returns
returns c =
    all_zero c.args.counts.now c.loop-port.zeros _ c.loop-port.invariant
    c.in-None.ensures.steps.0
