use Rattle.generated.specs.Values as values
use Rattle.generated.proofs.files.script.Goals as goal

pub unreachable-requires : goal.unreachable-requires
unreachable-requires c =
    let read = c.in-Err-Bad.ensures.only values.script
    (rw c.script_text.ensures.text c.texts_are_files.ensures.script) in
    let bad = rw c.in-Err-Bad.field-0-is at read in
    cc

pub returns-in-Ok-clause-value : goal.returns-in-Ok-clause-value
returns-in-Ok-clause-value c =
    let read = c.in-Ok.ensures.only values.script
    (rw c.script_text.ensures.text c.texts_are_files.ensures.script) in
    cc
