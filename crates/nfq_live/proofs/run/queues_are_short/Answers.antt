use Rattle.std.proofs.Common.{◌<◌, List, subst, sym}
use Rattle.std.specs.List.{AllByRecursion}
use Rattle.histories.specs.Numbers.{queue_count}
use Rattle.histories.specs.declared.entry.Entry.{Entry}
use Rattle.nfq_live.proofs.run.queues_are_short.Goals as goal

pub loop-entry-init : goal.loop-entry-init
loop-entry-init c = λ h.
    subst (λ (es : List Entry). AllByRecursion (λ (e : Entry). e.queue < queue_count) es)
    c.into_iter-entry-iterator.ensures.into_iter_gives h

pub loop-entry-preserved : goal.loop-entry-preserved
loop-entry-preserved c = λ h.
    c.loop-entry.invariant
    (subst (λ (es : List Entry). AllByRecursion (λ (e : Entry). e.queue < queue_count) es)
    (sym c.in-Some.ensures.steps) (c.is_short.ensures, h))
