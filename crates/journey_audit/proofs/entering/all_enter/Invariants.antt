use Rattle.std.proofs.Common.{◌≡◌, ◌+◌, length}
use Rattle.run_parts.specs.Entering.{cards, cards_from}
use Rattle.histories.specs.Journeys.{entering}
use Rattle.journey_audit.proofs.Tallies.{IsAsking}
use Rattle.journey_audit.proofs.entering.all_enter.Given as goal

abbrev pub invariant-loop-frame : goal.invariant-loop-frame
invariant-loop-frame l =
    IsAsking (entering l.tables l.key) (cards l.capture)
    (cards_from l.capture l.number l.frame-iterator) l.fn.tallies l.tallies
    × (l.number + length l.frame-iterator ≡ length l.capture.frames + 1)
