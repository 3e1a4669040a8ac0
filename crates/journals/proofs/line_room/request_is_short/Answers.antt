use Rattle.journals.proofs.Lengths.{request_within}
use Rattle.journals.proofs.line_room.request_is_short.Goals as goal

pub returns : goal.returns
returns c = request_within c.args.request.now c.request_fits.ensures
