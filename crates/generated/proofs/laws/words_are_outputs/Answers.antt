use Rattle.generated.proofs.Outputs.{words_are}
use Rattle.generated.proofs.laws.words_are_outputs.Goals as goal

pub returns : goal.returns
returns c = words_are
