use Rattle.std.proofs.Common.{sym, refl, arith}
use Rattle.host_io.proofs.FirstEntries.{find-here, changed-here, find-nowhere, changed-nowhere}
use Rattle.host_io.proofs.entries.count_fault.Goals as goal

pub returns-in-Some-clause-entries : goal.returns-in-Some-clause-entries
returns-in-Some-clause-entries c =
    changed-here _ _ _ _ c.in-Some.ensures c.index-entries-i.is _ _ c.count_fault.ensures

pub returns-in-Some-clause-others : goal.returns-in-Some-clause-others
returns-in-Some-clause-others c = rw (find-here _ _ _ _ c.in-Some.ensures c.index-entries-i.is) refl

pub returns-in-None-clause-entries : goal.returns-in-None-clause-entries
returns-in-None-clause-entries c = sym (changed-nowhere _ _ _ (sym c.in-None.ensures))

pub returns-in-None-clause-others : goal.returns-in-None-clause-others
returns-in-None-clause-others c = rw (find-nowhere _ _ (sym c.in-None.ensures))
    (omega (arith, c.saturating_add.ensures))
