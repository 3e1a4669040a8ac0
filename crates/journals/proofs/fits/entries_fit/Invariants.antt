use Rattle.std.specs.List.{AllByRecursion}
use Rattle.journals.specs.WellFormed.{FitsEntry}
use Rattle.journals.proofs.fits.entries_fit.Given as goal

abbrev pub invariant-loop-entry : goal.invariant-loop-entry
invariant-loop-entry l =
    AllByRecursion FitsEntry l.entry-iterator → AllByRecursion FitsEntry l.entries
