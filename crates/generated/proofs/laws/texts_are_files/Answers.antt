use Rattle.generated.proofs.RulesFile.{rules_file}
use Rattle.generated.proofs.ScriptFile.{script_file}
use Rattle.generated.proofs.laws.texts_are_files.Goals as goal

pub returns-clause-rules : goal.returns-clause-rules
returns-clause-rules c = rules_file

pub returns-clause-script : goal.returns-clause-script
returns-clause-script c = script_file
