use Rattle.std.proofs.Common.{◌≡◌, ◌++◌}
use Rattle.journals.specs.Format as text
use Rattle.journals.proofs.writing.push_logs.Given as goal

-- the text so far, and that of what is still to come
abbrev pub invariant-loop-log : goal.invariant-loop-log
invariant-loop-log l =
    l.out.items ++ text.logs l.version l.log-iterator ≡ l.fn.out.items ++ text.logs l.version l.logs
