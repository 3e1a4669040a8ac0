use Rattle.text_lines.proofs.SilentLines.{passed_over}
use Rattle.text_lines.proofs.laws.lines_are_passed_over.Goals as goal

pub returns : goal.returns
returns c = passed_over
