use Rattle.inspector_pool.proofs.NoticeAnswers.{answers_in_turn}
use Rattle.inspector_pool.proofs.laws.a_pool_answers_as_one_inspector.Goals as goal

pub returns : goal.returns
returns c = answers_in_turn
