use Rattle.std.proofs.Common.{◌≡◌}
use Rattle.mailbox.proofs.mailbox.Mailbox.put.Given as goal

abbrev pub invariant-loop : goal.invariant-loop
invariant-loop g l = (l.pass.table_id ≡ l.initial.pass.table_id)
    × (l.pass.id ≡ l.initial.pass.id) × (l.pass.me.1 ≡ l.initial.pass.me.1)
    × (l.pass.me.0.client ≡ l.initial.pass.me.0.client) × (l.post ≡ l.initial.post)
