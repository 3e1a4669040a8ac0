use Rattle.std.specs.List.{AllByRecursion}
use Rattle.journals.specs.declared.version.Version.TheVariants.{Second}
use Rattle.journals.specs.Formed.{FitsDid}
use Rattle.journals.proofs.fits.dids_fit.Given as goal

abbrev pub invariant-loop-did : goal.invariant-loop-did
invariant-loop-did l =
    AllByRecursion (FitsDid Second) l.did-iterator → AllByRecursion (FitsDid Second) l.dids
