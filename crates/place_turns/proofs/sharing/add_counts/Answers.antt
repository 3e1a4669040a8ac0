use Rattle.place_turns.proofs.CountSums.{none_added, still_there, still_fits, one_added, all_added}
use Rattle.place_turns.proofs.sharing.add_counts.Goals as goal

pub loop-port-init : goal.loop-port-init
loop-port-init c = none_added c.args.into.now c.args.from

pub add-requires-clause-there : goal.add-requires-clause-there
add-requires-clause-there c =
    still_there c.args.into.now c.args.from c.loop-port.into c.loop-port.from c.requires
    c.loop-port.invariant c.in-Some.port c.in-Some.more c.in-Some.ensures.own.0

pub add-requires-clause-fits : goal.add-requires-clause-fits
add-requires-clause-fits c =
    still_fits c.args.into.now c.args.from c.loop-port.into c.loop-port.from c.requires
    c.loop-port.invariant c.in-Some.port c.in-Some.more c.in-Some.ensures.own.0

pub loop-port-preserved : goal.loop-port-preserved
loop-port-preserved c =
    one_added c.args.into.now c.args.from c.loop-port.into c.loop-port.from c.requires
    c.loop-port.invariant c.in-Some.port c.in-Some.more c.in-Some.ensures.own.0
    c.add.new.into c.take_count.new.counts c.in-Some.ensures.own.1 c.in-Some.ensures.others
    c.add.ensures.own c.add.ensures.others

pub returns : goal.returns
returns c =
    all_added c.args.into.now c.args.from c.loop-port.into c.loop-port.from
    c.loop-port.invariant c.in_default.ensures.none
