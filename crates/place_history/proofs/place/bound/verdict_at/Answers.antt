use Rattle.std.proofs.Common.{Some, ap, sym}
use Rattle.queue_core.specs.Lines.{IsAllowed}
use Rattle.place_history.proofs.RequestEntries.{verdict_refused, verdict_leaves}
use Rattle.place_history.proofs.RequestEntries.{verdict_finds_none}
use Rattle.place_history.proofs.place.bound.verdict_at.Goals as goal

is_allowed : (c : goal.After-ok_or) →
    IsAllowed (Some c.args.queue.now.state) c.args.port c.args.head c.in-Ok.head
is_allowed c =
    c.in-Ok.ensures.allowed (Some c.args.queue.now.state) (ap Some (sym c.port.ensures))

pub verdict-requires-clause-known : goal.verdict-requires-clause-known
verdict-requires-clause-known c =
    (c.in-Ok.ensures.allowed (Some c.args.queue.now.state) (ap Some (sym c.port.ensures))).4

pub returns-in-Ok-clause-leaves : goal.returns-in-Ok-clause-leaves
returns-in-Ok-clause-leaves c =
    rw c.ok_or.ensures.value
    (verdict_leaves c.args.queue.now.state c.verdict.new.self.state c.args.port c.args.head
    c.in-Ok.head c.args.mark c.args.payload c.args.priority c.verdict.result (is_allowed c)
    c.verdict.ensures.step)

pub returns-in-Ok-clause-refused : goal.returns-in-Ok-clause-refused
returns-in-Ok-clause-refused c =
    rw c.ok_or.ensures.value
    (verdict_finds_none c.args.queue.now.state c.verdict.new.self.state c.args.port c.args.head
    c.in-Ok.head c.args.mark c.args.payload c.args.priority c.verdict.result (is_allowed c)
    c.verdict.ensures.unchanged c.verdict.ensures.step)

pub returns-in-Err-clause-refused : goal.returns-in-Err-clause-refused
returns-in-Err-clause-refused c =
    verdict_refused (Some c.args.queue.now.state) c.args.port c.in-Err.errno c.args.head
    c.args.mark c.args.payload c.args.priority
    (c.in-Err.ensures.refused (Some c.args.queue.now.state) (ap Some (sym c.port.ensures)))
