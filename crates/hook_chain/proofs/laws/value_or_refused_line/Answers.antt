use Rattle.hook_chain.proofs.FeederForm.{never_both_one, one_or_other}
use Rattle.hook_chain.proofs.laws.value_or_refused_line.Goals as goal

pub returns-clause-one : goal.returns-clause-one
returns-clause-one c = one_or_other

pub returns-clause-never_both : goal.returns-clause-never_both
returns-clause-never_both c = never_both_one
