use Rattle.inspector_script.proofs.FileForm.{same_script}
use Rattle.inspector_script.proofs.laws.one_value.Goals as goal

pub returns : goal.returns
returns c = same_script c.lines_say_what_is_written.ensures
