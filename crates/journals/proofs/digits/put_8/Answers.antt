use Rattle.std.proofs.Common.{refl}
use Rattle.journals.proofs.Lanes.{first_8, second_8, woven_8, two_runs_of}
use Rattle.journals.proofs.digits.put_8.Goals as goal

pub returns : goal.returns
returns c =
    record {
      digits =
          two_runs_of 8 c.args.bytes.now c.args.to.now c.digits_8.result c.digits_8-2.result
          first_8 second_8 woven_8 refl refl c.requires.bytes c.requires.room
          c.digits_8.ensures c.digits_8-2.ensures;
    }
