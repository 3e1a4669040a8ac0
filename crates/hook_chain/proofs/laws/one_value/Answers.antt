use Rattle.hook_chain.proofs.FeederForm.{same_one}
use Rattle.hook_chain.proofs.laws.one_value.Goals as goal

pub returns : goal.returns
returns c = same_one
