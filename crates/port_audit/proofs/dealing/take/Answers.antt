use Rattle.std.proofs.Common.{sym, ◌∙◌}
use Rattle.port_audit.proofs.Rows.{taken_away, taken_left}
use Rattle.port_audit.proofs.dealing.take.Goals as goal

pub returns-then-is_left : goal.returns-then-is_left
returns-then-is_left g c =
    taken_away c.args.side c.args.rows.now c.take_first-first.new.rows c.remove.new.self _
    c.take_first-first.ensures (sym c.is_left.ensures ∙ c.if-is_left.true)
    c.remove.ensures.updates.1 c.remove.ensures.updates.2

pub returns-else-is_left : goal.returns-else-is_left
returns-else-is_left g c =
    taken_left c.args.side c.args.rows.now c.take_first-first.new.rows _
    c.take_first-first.ensures (sym c.is_left.ensures ∙ c.if-is_left.false)
