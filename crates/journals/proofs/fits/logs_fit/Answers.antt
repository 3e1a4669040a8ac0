use Rattle.journals.specs.WellFormed.{FitsLog}
use Rattle.journals.proofs.StillToCome.{at_first, one_on}
use Rattle.journals.proofs.fits.logs_fit.Goals as goal

pub loop-log-init : goal.loop-log-init
loop-log-init c = at_first FitsLog _ _ c.into_iter-log-iterator.ensures.into_iter_gives

pub loop-log-preserved : goal.loop-log-preserved
loop-log-preserved c =
    one_on FitsLog c.in-Some.log.now _ _ _ c.in-Some.ensures.steps c.log_fits.ensures
    c.loop-log.invariant
