use Rattle.hook_chain.proofs.FileForm.{same_line}
use Rattle.hook_chain.proofs.laws.one_refused_line.Goals as goal

pub returns : goal.returns
returns c = same_line
