use Rattle.log_audit.specs.Walking.{Known}
use Rattle.log_audit.specs.PortWalks.{IsHeld, walk_of}
use Rattle.log_audit.specs.Stays.{AreTold}
use Rattle.log_audit.proofs.WalkSteps.{IsGoingOver}
use Rattle.log_audit.proofs.port_walk.PortWalk.go_on_over.Given as goal

abbrev pub invariant-loop-did : goal.invariant-loop-did
invariant-loop-did l = record {
  held : IsHeld l.self;
  over : (known : Known) → AreTold known l.notices →
      IsGoingOver known l.script l.place l.port (walk_of l.fn.self) (walk_of l.self) l.dids
      l.did-iterator;
}
