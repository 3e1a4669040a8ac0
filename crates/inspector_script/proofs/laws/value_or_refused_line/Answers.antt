use Rattle.inspector_script.proofs.FileForm.{never_both, one_of_two}
use Rattle.inspector_script.proofs.laws.value_or_refused_line.Goals as goal

pub returns-clause-one : goal.returns-clause-one
returns-clause-one c = one_of_two c.lines_say_what_is_written.ensures

pub returns-clause-never_both : goal.returns-clause-never_both
returns-clause-never_both c = never_both c.lines_say_what_is_written.ensures
