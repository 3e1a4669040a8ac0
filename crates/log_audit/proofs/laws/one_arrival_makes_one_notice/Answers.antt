use Rattle.log_audit.proofs.NoticePerVisit.{only_ones}
use Rattle.log_audit.proofs.laws.one_arrival_makes_one_notice.Goals as goal

pub returns : goal.returns
returns c = only_ones
