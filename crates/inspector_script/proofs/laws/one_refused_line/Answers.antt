use Rattle.inspector_script.proofs.FileForm.{same_line}
use Rattle.inspector_script.proofs.laws.one_refused_line.Goals as goal

pub returns : goal.returns
returns c = same_line c.lines_say_what_is_written.ensures
