use Rattle.fate_ledger.proofs.LastEvents.{each_line}
use Rattle.fate_ledger.proofs.laws.each_line_names_the_last_event.Goals as goal

pub returns : goal.returns
returns c = each_line c.replies_tell_how_many_left.ensures
