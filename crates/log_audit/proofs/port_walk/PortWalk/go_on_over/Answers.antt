use Rattle.log_audit.specs.PortWalks.{walk_of}
use Rattle.log_audit.proofs.WalkSteps.{over_begun}
use Rattle.log_audit.proofs.port_walk.PortWalk.go_on_over.Goals as goal

pub loop-did-init : goal.loop-did-init
loop-did-init c = record {
  held = c.requires.held;
  over = λ known are. over_begun known c.args.script.now c.args.place c.args.port
      (walk_of c.args.self.now) c.args.dids.now _
      c.into_iter-did-iterator.ensures.into_iter_gives;
}
