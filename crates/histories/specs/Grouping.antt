-- Entries of several queues, put together by queue.
use Rattle.std.specs.Prelude.{◌≡◌, ℕ, List}
use Rattle.std.specs.List.Sorted.{IsSortedByKey}
use Rattle.std.specs.Ordering.{nat_cmp}
use Rattle.histories.specs.declared.entry.Entry.{Entry}
use Rattle.histories.specs.History.{history}

-- entries by ascending queue number, each queue's in their order
pub record IsGrouped (es grouped : List Entry) : Type 0 where
  pub ascend : IsSortedByKey (λ (e : Entry). e.queue) nat_cmp grouped
  pub same : (queue : ℕ) → history queue grouped ≡ history queue es
