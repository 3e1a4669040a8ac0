use Rattle.generated.proofs.Rows.{IsFilling}
use Rattle.generated.proofs.captures.packets.Given as goal

abbrev pub invariant-loop : goal.invariant-loop
invariant-loop l = IsFilling l.number l.count l.counter l.generator l.bytes.items
