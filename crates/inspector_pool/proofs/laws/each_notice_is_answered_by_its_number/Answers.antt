use Rattle.inspector_pool.proofs.NoticeAnswers.{answers_length, answers_at}
use Rattle.inspector_pool.proofs.laws.each_notice_is_answered_by_its_number.Goals as goal

pub returns-clause-as_many : goal.returns-clause-as_many
returns-clause-as_many c = answers_length

pub returns-clause-each : goal.returns-clause-each
returns-clause-each c = answers_at
