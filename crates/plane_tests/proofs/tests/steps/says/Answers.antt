use Rattle.std.proofs.Common.{sym}
use Rattle.plane.specs.Passes.{IsPortOf}
use Rattle.plane_tests.proofs.AllPasses.{every_get, none_acts, one_acts}
use Rattle.plane_tests.proofs.tests.steps.says.Goals as goal

pub returns-then-bytes-ge1000 : goal.returns-then-bytes-ge1000
returns-then-bytes-ge1000 g c = none_acts c.args.plane.now c.args.ports.now c.requires

pub returns-in_default : goal.returns-in_default
returns-in_default g c = none_acts c.args.plane.now c.args.ports.now c.requires

pub message-requires-clause-pass : goal.message-requires-clause-pass
message-requires-clause-pass g c κs within =
    every_get (IsPortOf c.args.plane.now) c.args.ports.now c.args.at _ c.requires
    (sym c.in-Some.ensures.value)

pub returns-in_err-used : goal.returns-in_err-used
returns-in_err-used g c =
    one_acts c.args.plane.now c.args.ports.now c.args.at c.in-Some.pass.now c.message.new.pass
    c.requires (sym c.in-Some.ensures.value) c.message.ensures.pass
    (record { port = c.message.ensures.receiver.1; parts = c.message.ensures.parts })

pub returns : goal.returns
returns g c =
    one_acts c.args.plane.now c.args.ports.now c.args.at c.in-Some.pass.now c.message.new.pass
    c.requires (sym c.in-Some.ensures.value) c.message.ensures.pass
    (record { port = c.message.ensures.receiver.1; parts = c.message.ensures.parts })
