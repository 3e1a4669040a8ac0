use Rattle.std.proofs.Common.{ap, ◌∙◌, rules}
use Rattle.glance.specs.Views.{opening, latest}
use Rattle.glance.proofs.Readings.{last_longer}
use Rattle.glance.proofs.StepRule.{publishes}
use Rattle.glance.proofs.board.Board.publish.Goals as goal

pub store-requires : goal.store-requires
store-requires c =
    let i = c.writer.invariant in (
      search rules,
      search rules,
      publishes _ _ _ _ _ _ i.writes (search rules) (search rules) (search rules),
    )

pub returns-clause-latest : goal.returns-clause-latest
returns-clause-latest c =
    ap (λ m. latest m.0.published) c.store.ensures.2
    ∙ last_longer opening c.writer.inside.seat.me.0.published _ ∙ c.word.ensures.back
