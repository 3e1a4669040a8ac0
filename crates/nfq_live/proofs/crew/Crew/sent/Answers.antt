use Rattle.std.proofs.Common.{arith}
use Rattle.nfq_live.specs.Crews.{all_sent}
use Rattle.nfq_live.proofs.NoticeCounts.{sent_end}
use Rattle.nfq_live.proofs.crew.Crew.sent.Goals as goal

pub returns : goal.returns
returns c =
    sent_end c.args.port c.loop-pass-2.sent c.loop-pass-2.pass-index
    (all_sent c.args.self.now c.args.port) c.as_slice-pass-items-2.result.now
    (omega (arith, c.loop-pass-2-test.false, c.loop-pass-2.auto.pass-index-end))
    c.loop-pass-2.invariant.most c.loop-pass-2.invariant.sum
