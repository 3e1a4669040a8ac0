use Rattle.std.proofs.Common.{sym}
use Rattle.plane.specs.Passes.{IsPortOf}
use Rattle.plane_tests.proofs.AllPasses.{every_get, none_acts, one_acts, receives_keep}
use Rattle.plane_tests.proofs.tests.steps.receive.Goals as goal

pub returns-in_default : goal.returns-in_default
returns-in_default g c = none_acts c.args.plane.now c.args.ports.now c.requires

pub receive-requires : goal.receive-requires
receive-requires g c = record {
  pass = every_get (IsPortOf c.args.plane.now) c.args.ports.now c.args.at _ c.requires
      (sym c.in-Some.ensures.value);
}

pub returns-in_err-receive : goal.returns-in_err-receive
returns-in_err-receive g c =
    one_acts c.args.plane.now c.args.ports.now c.args.at c.in-Some.pass.now c.receive.new.pass
    c.requires (sym c.in-Some.ensures.value) c.receive.ensures.pass
    (receives_keep c.in-Some.pass.now c.receive.new.pass c.receive.result
    c.receive.ensures.received c.receive.ensures.err)

pub returns : goal.returns
returns g c =
    one_acts c.args.plane.now c.args.ports.now c.args.at c.in-Some.pass.now c.receive.new.pass
    c.requires (sym c.in-Some.ensures.value) c.receive.ensures.pass
    (receives_keep c.in-Some.pass.now c.receive.new.pass c.receive.result
    c.receive.ensures.received c.receive.ensures.err)
