use Rattle.journals.specs.declared.version.Version.TheVariants.{Second}
use Rattle.journals.specs.Formed.{FitsDid}
use Rattle.journals.proofs.StillToCome.{at_first, one_on}
use Rattle.journals.proofs.fits.dids_fit.Goals as goal

pub loop-did-init : goal.loop-did-init
loop-did-init c = at_first (FitsDid Second) _ _ c.into_iter-did-iterator.ensures.into_iter_gives

pub loop-did-preserved : goal.loop-did-preserved
loop-did-preserved c =
    one_on (FitsDid Second) c.in-Some.did.now _ _ _ c.in-Some.ensures.steps c.did_fits.ensures
    c.loop-did.invariant
