use Rattle.generated.specs.Values as values
use Rattle.generated.proofs.files.tables.Goals as goal

pub unreachable-requires : goal.unreachable-requires
unreachable-requires c =
    let read = c.in-Err-Bad.ensures.only values.tables
    (rw c.rules_text.ensures.text c.texts_are_files.ensures.rules) in
    let bad = rw c.in-Err-Bad.field-0-is at read in
    cc

pub returns-in-Ok-clause-value : goal.returns-in-Ok-clause-value
returns-in-Ok-clause-value c =
    let read = c.in-Ok.ensures.only values.tables
    (rw c.rules_text.ensures.text c.texts_are_files.ensures.rules) in
    cc
