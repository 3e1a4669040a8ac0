use Rattle.std.proofs.Common.{rules, refl}
use Rattle.inspector_pool.proofs.NoticeAnswers.{job_answered}
use Rattle.inspector_pool.proofs.assignment.Assignment.answer.Goals as goal

pub returns : goal.returns
returns g c = (
  refl,
  job_answered c.args.self.now c.args.job c.in-Some.notice.now c.in_ok-asks.asks
      c.requires.job.low c.requires.job.high (search rules) (search rules) c.in_ok-asks.ensures.fit,
)
