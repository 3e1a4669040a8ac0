use Rattle.std.proofs.Common.{◌≡◌, ◌<◌, ℕ, false}
use Rattle.std.specs.Prelude.{slice_index_or}
use Rattle.histories.specs.Journeys.{Arrival}
use Rattle.journey_audit.specs.Comparing.{is_same}
use Rattle.journey_audit.proofs.tally.place_of.Given as goal

-- it stands nowhere before
abbrev pub invariant-loop-place : goal.invariant-loop-place
invariant-loop-place l =
    (at : ℕ) (other : Arrival) → at < l.place →
    is_same (slice_index_or l.arrivals.items at other) l.wanted ≡ false
