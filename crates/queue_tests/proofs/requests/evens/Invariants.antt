use Rattle.place_history.specs.Calls.{IsOnly}
use Rattle.queue_tests.proofs.requests.evens.Given as goal

abbrev pub invariant-loop-passed : goal.invariant-loop-passed
invariant-loop-passed l = IsOnly l.place
