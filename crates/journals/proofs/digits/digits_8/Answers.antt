use Rattle.journals.proofs.Lanes.{shown}
use Rattle.journals.proofs.digits.digits_8.Goals as goal

pub returns : goal.returns
returns c = shown 8 c.args.lanes c.requires.lanes c.requires.small
