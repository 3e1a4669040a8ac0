use Rattle.std.proofs.Common.{◌≡◌, ◌≤◌, None}
use Rattle.readme_snippets.proofs.inspection.accept_all.Given as goal

abbrev pub invariant-loop-number : goal.invariant-loop-number
invariant-loop-number l = record {
  offer : l.queue.offer ≡ None;
  few : l.accepted ≤ l.number;
}
