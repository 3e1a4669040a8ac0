use Rattle.std.proofs.Common.{arith, ◌∙◌}
use Rattle.journals.proofs.Lanes.{last_run}
use Rattle.journals.proofs.digits.put_digits.Goals as goal

pub returns-then-bytes-ge8 : goal.returns-then-bytes-ge8
returns-then-bytes-ge8 c =
    record {
      digits =
          last_run c.args.bytes.now c.put_8.new.to c.put_8-then-bytes-ge8.new.to 8 8
          c.if-bytes-ge8.true c.if-bytes-ge8.true (omega (arith, c.if-bytes-ge16.false))
          (c.put_8.auto.to ∙ c.requires.room) c.put_8.ensures.digits
          c.put_8-then-bytes-ge8.auto.to c.put_8-then-bytes-ge8.ensures.digits;
    }
