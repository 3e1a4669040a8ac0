use Rattle.place_history.specs.Calls.{IsOnly}
use Rattle.queue_tests.proofs.go_over.Given as goal

abbrev pub invariant-loop-line : goal.invariant-loop-line
invariant-loop-line l = IsOnly l.place
