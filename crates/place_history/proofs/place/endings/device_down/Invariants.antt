use Rattle.std.proofs.Common.{◌≡◌, ◌+◌, None, ◌-◌, length}
use Rattle.std.specs.BTreeMap.{btree_map_len}
use Rattle.histories.specs.Numbers.{queue_count}
use Rattle.histories.specs.States.{state_of}
use Rattle.histories.specs.Happenings.{down_of}
use Rattle.place_history.specs.PlaceInvariant.{IsReplayed}
use Rattle.place_history.proofs.QueueSweep.{Sweeps}
use Rattle.place_history.proofs.place.endings.device_down.Given as goal

abbrev pub invariant-loop-number : goal.invariant-loop-number
invariant-loop-number l =
    record {
      replayed : IsReplayed l.held;
      no_offer : l.held.offer ≡ None;
      as_many : btree_map_len l.held.queues ≡ btree_map_len l.fn.held.queues;
      room : l.held.entries.room + length l.held.entries.items
          ≡ l.fn.held.entries.room + length l.fn.held.entries.items;
      sweeps : Sweeps
          (λ q. down_of l.device q (state_of l.fn.held.entries.items q))
          l.fn.held.entries.items l.held.entries.items l.from l.taken;
    }

abbrev pub decreases-loop-number : goal.decreases-loop-number
decreases-loop-number l = queue_count - l.from
