use Rattle.std.proofs.Common.{arith, refl, ◌∙◌}
use Rattle.hex.specs.Hex.{encode_with}
use Rattle.journals.proofs.Lanes.{put_run, last_run}
use Rattle.journals.proofs.digits.put_many.Goals as goal

pub loop-at-init : goal.loop-at-init
unfolding encode_with
loop-at-init c = (omega arith, refl)

pub loop-at-preserved : goal.loop-at-preserved
loop-at-preserved c =
    let room = c.loop-at.auto.to ∙ c.requires.room in
    let within = c.loop-at.invariant.0 in (
      omega (arith, c.loop-at-test.true, within),
      put_run c.args.bytes.now c.loop-at.to c.put_16.new.to c.loop-at.at c.loop-at.at 16 _
          (omega arith) within (omega (arith, within, room)) c.loop-at.invariant.1
          (omega (arith, c.put_16.auto.to, c.loop-at-test.true, within, room))
          c.put_16.ensures.digits,
    )

pub returns : goal.returns
returns c =
    let room = c.loop-at.auto.to ∙ c.requires.room in
    record {
      digits =
          last_run c.args.bytes.now c.loop-at.to c.put_16-2.new.to c.loop-at.at 16
          c.loop-at.invariant.0 c.requires.many
          (omega (arith, c.loop-at-test.false, c.loop-at.invariant.0)) room
          c.loop-at.invariant.1 c.put_16-2.auto.to c.put_16-2.ensures.digits;
    }
