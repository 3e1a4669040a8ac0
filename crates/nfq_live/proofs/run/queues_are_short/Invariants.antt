use Rattle.std.specs.Prelude.{◌<◌}
use Rattle.std.specs.List.{AllByRecursion}
use Rattle.histories.specs.Numbers.{queue_count}
use Rattle.histories.specs.declared.entry.Entry.{Entry}
use Rattle.nfq_live.proofs.run.queues_are_short.Given as goal

abbrev pub invariant-loop-entry : goal.invariant-loop-entry
invariant-loop-entry l =
    AllByRecursion (λ (e : Entry). e.queue < queue_count) l.entry-iterator →
    AllByRecursion (λ (e : Entry). e.queue < queue_count) l.entries
