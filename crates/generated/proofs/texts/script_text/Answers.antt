use Rattle.std.proofs.Common.{refl}
use Rattle.std.specs.Fmt.{digits}
use Rattle.generated.specs.Texts.{script_text}
use Rattle.generated.proofs.texts.script_text.Goals as goal

pub returns-clause-text : goal.returns-clause-text
unfolding digits script_text
returns-clause-text c = refl
