use Rattle.journals.specs.WellFormed.{FitsEntry}
use Rattle.journals.proofs.StillToCome.{at_first, one_on}
use Rattle.journals.proofs.fits.entries_fit.Goals as goal

pub loop-entry-init : goal.loop-entry-init
loop-entry-init c = at_first FitsEntry _ _ c.into_iter-entry-iterator.ensures.into_iter_gives

pub loop-entry-preserved : goal.loop-entry-preserved
loop-entry-preserved c =
    one_on FitsEntry c.in-Some.entry.now _ _ _ c.in-Some.ensures.steps c.entry_fits.ensures
    c.loop-entry.invariant
