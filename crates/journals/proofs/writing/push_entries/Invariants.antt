use Rattle.std.proofs.Common.{◌≡◌, ◌++◌}
use Rattle.journals.specs.Format as text
use Rattle.journals.proofs.writing.push_entries.Given as goal

-- the text so far, and that of what is still to come
abbrev pub invariant-loop-entry : goal.invariant-loop-entry
invariant-loop-entry l =
    l.out.items ++ text.entries l.version l.entry-iterator ≡ l.fn.out.items
    ++ text.entries l.version l.entries
