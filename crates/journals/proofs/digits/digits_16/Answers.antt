use Rattle.journals.proofs.Lanes.{shown}
use Rattle.journals.proofs.digits.digits_16.Goals as goal

pub returns : goal.returns
returns c = shown 16 c.args.lanes c.requires.lanes c.requires.small
