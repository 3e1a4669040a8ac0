use Rattle.std.proofs.Common.{rules}
use Rattle.std.proofs.lemmas.Fmt.{length-decimal-le}
use Rattle.journals.proofs.line_room.number_is_short.Goals as goal

pub returns : goal.returns
returns c = search (rules, length-decimal-le 20)
