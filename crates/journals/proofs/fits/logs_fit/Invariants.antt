use Rattle.std.specs.List.{AllByRecursion}
use Rattle.journals.specs.WellFormed.{FitsLog}
use Rattle.journals.proofs.fits.logs_fit.Given as goal

abbrev pub invariant-loop-log : goal.invariant-loop-log
invariant-loop-log l =
    AllByRecursion FitsLog l.log-iterator → AllByRecursion FitsLog l.logs
