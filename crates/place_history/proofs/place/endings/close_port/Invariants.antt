use Rattle.std.proofs.Common.{◌≡◌, None, ◌-◌}
use Rattle.histories.specs.Numbers.{queue_count}
use Rattle.histories.specs.States.{state_of}
use Rattle.histories.specs.Happenings.{closing_of}
use Rattle.place_history.specs.PlaceInvariant.{IsReplayed, HasRoom}
use Rattle.place_history.proofs.QueueSweep.{Sweeps}
use Rattle.place_history.proofs.place.endings.close_port.Given as goal

abbrev pub invariant-loop-number : goal.invariant-loop-number
invariant-loop-number l =
    record {
      replayed : IsReplayed l.held;
      no_offer : l.held.offer ≡ None;
      room : HasRoom l.held 0;
      sweeps : Sweeps
          (λ q. closing_of l.port q (state_of l.fn.held.entries.items q))
          l.fn.held.entries.items l.held.entries.items l.from l.taken;
    }

abbrev pub decreases-loop-number : goal.decreases-loop-number
decreases-loop-number l = queue_count - l.from
