use Rattle.plane_tests.proofs.AllPasses.{as_many, opened}
use Rattle.plane_tests.proofs.tests.open.Goals as goal

pub returns : goal.returns
returns c = record {
  going = opened c.args.places c.args.ports.now _ c.in_ok-new.field-0 c.requires.apart
      c.in_ok-new.ensures;
  ports = as_many c.args.places c.args.ports.now _ c.in_ok-new.field-0 c.in_ok-new.ensures;
}
