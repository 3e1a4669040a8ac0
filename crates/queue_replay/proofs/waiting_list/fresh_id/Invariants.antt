use Rattle.std.proofs.Common.{◌≡◌, ◌-◌, length}
use Rattle.std.specs.Map.{keys_of}
use Rattle.queue_core.specs.Ids.{fresh, free_from}
use Rattle.queue_replay.proofs.waiting_list.fresh_id.Given as goal

-- so many looks are left from this id on
abbrev pub invariant-loop : goal.invariant-loop
invariant-loop l = free_from (length l.waiting - l.counter) l.id (keys_of l.waiting)
    ≡ fresh l.last (keys_of l.waiting)
