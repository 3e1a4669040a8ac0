use Rattle.std.proofs.Common.{◌≡◌, ◌++◌}
use Rattle.journals.specs.Format as text
use Rattle.journals.proofs.writing.push_dids.Given as goal

-- the text so far, and that of what is still to come
abbrev pub invariant-loop-did : goal.invariant-loop-did
invariant-loop-did l =
    l.out.items ++ text.dids l.version l.did-iterator ≡ l.fn.out.items ++ text.dids l.version l.dids
