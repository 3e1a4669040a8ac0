use Rattle.std.proofs.Common.{ap, ◌∙◌, rules}
use Rattle.mailbox.proofs.LetterCount.{frees}
use Rattle.mailbox.proofs.mailbox.Mailbox.free.Goals as goal

pub compare_exchange-found-requires : goal.compare_exchange-found-requires
compare_exchange-found-requires g c =
    let i = c.loop.invariant in (
      search rules,
      search rules,
      frees _ _ _ _ _ (ap (λ m. m.0.role.gets) i.2 ∙ c.requires.gets) (search rules),
    )
