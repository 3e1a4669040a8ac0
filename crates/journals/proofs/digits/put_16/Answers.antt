use Rattle.std.proofs.Common.{refl}
use Rattle.journals.proofs.Lanes.{first_16, second_16, woven_16, masked_long, two_runs_of}
use Rattle.journals.proofs.digits.put_16.Goals as goal

pub digits_16-requires-2-clause-lanes : goal.digits_16-requires-2-clause-lanes
digits_16-requires-2-clause-lanes c = masked_long 16 c.args.bytes.now c.requires.bytes

pub returns : goal.returns
returns c =
    record {
      digits =
          two_runs_of 16 c.args.bytes.now c.args.to.now c.digits_16.result c.digits_16-2.result
          first_16 second_16 woven_16 refl refl c.requires.bytes c.requires.room
          c.digits_16.ensures c.digits_16-2.ensures;
    }
