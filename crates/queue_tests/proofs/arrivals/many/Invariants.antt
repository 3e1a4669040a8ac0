use Rattle.place_history.specs.Calls.{IsOnly}
use Rattle.queue_tests.proofs.arrivals.many.Given as goal

abbrev pub invariant-loop-number : goal.invariant-loop-number
invariant-loop-number l = IsOnly l.place
