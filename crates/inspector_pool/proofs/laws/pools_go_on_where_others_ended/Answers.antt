use Rattle.inspector_pool.proofs.NoticeAnswers.{answers_append}
use Rattle.inspector_pool.proofs.laws.pools_go_on_where_others_ended.Goals as goal

pub returns : goal.returns
returns c = answers_append
