use Rattle.nfq_live.proofs.ScriptPlane.{opened_for, ports_are_distinct, tables_are}
use Rattle.nfq_live.proofs.script_plane.open_plane.Goals as goal

pub new-requires-clause-apart : goal.new-requires-clause-apart
new-requires-clause-apart c =
    ports_are_distinct c.args.script.now _ c.ports.ensures.facts c.ports.ensures.value

pub returns-clause-opened : goal.returns-clause-opened
returns-clause-opened c =
    opened_for c.args.script.now c.args.places c.args.tables _ _ _ c.ports.ensures.value
    c.key.ensures c.mail-mail.ensures.value c.new.result c.new.ensures

pub returns-clause-tables : goal.returns-clause-tables
returns-clause-tables c =
    tables_are c.args.places c.args.tables _ _ _ c.new.result c.new.ensures
