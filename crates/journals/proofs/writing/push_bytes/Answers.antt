use Rattle.std.proofs.Common.{arith}
use Rattle.journals.proofs.Lengths.{hexadecimal_has}
use Rattle.journals.proofs.writing.push_bytes.Goals as goal

pub returns-in_default : goal.returns-in_default
returns-in_default c =
    record {
      ok = tt;
      len = tt;
      room =
          λ room.
          c.in_default.ensures.succeeds (omega (arith, room, hexadecimal_has c.args.bytes.now));
      capacity = c.reserve.ensures.capacity;
    }
