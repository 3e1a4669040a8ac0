use Rattle.std.proofs.Common.{refl}
use Rattle.journals.specs.declared.version.Version.TheVariants.{Second}
use Rattle.journals.specs.Journal.{journal}
use Rattle.journal_reading.proofs.laws.values_have_journals_of_their_own.Goals as goal

pub returns : goal.returns
returns c =
    λ a b x y same. c.a_text_has_one_value.ensures Second (journal a) a b
    (record { well_formed = x; text_is = refl }) (record { well_formed = y; text_is = same })
