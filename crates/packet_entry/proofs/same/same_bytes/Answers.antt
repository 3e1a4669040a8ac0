use Rattle.std.proofs.Common.{ap, arith}
use Rattle.packet_entry.proofs.Lanes.{last, same_in_all}
use Rattle.packet_entry.proofs.same.same_bytes.Goals as goal

pub returns-then-begin_with_same_16 : goal.returns-then-begin_with_same_16
returns-then-begin_with_same_16 c = (
  λ is. same_in_all 16 16 c.args.a.now c.args.b.now c.if-a-b.false c.if-a-lt16.false
      (omega (arith, c.if-a-lt32.true)) (c.begin_with_same_16.ensures.0 c.if-begin_with_same_16.true)
      (c.begin_with_same_16-then-begin_with_same_16.ensures.0 is),
  λ same. c.begin_with_same_16-then-begin_with_same_16.ensures.1 (ap (last 16) same),
)

pub returns-then-begin_with_same_32 : goal.returns-then-begin_with_same_32
returns-then-begin_with_same_32 c = (
  λ is. same_in_all 32 32 c.args.a.now c.args.b.now c.if-a-b.false c.if-a-lt32.false
      (omega (arith, c.if-a-lt64.true)) (c.begin_with_same_32.ensures.0 c.if-begin_with_same_32.true)
      (c.begin_with_same_32-then-begin_with_same_32.ensures.0 is),
  λ same. c.begin_with_same_32-then-begin_with_same_32.ensures.1 (ap (last 32) same),
)
