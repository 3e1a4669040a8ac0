use Rattle.run_parts.proofs.ToldLogs.{all_told}
use Rattle.run_parts.proofs.laws.each_log_is_what_is_told.Goals as goal

pub returns : goal.returns
returns c = all_told
