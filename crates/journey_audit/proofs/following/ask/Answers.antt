use Rattle.std.proofs.Common.{◌+◌, refl, ap, ◌∙◌}
use Rattle.histories.specs.Journeys.{asked_by_some}
use Rattle.journey_audit.proofs.Tallies.{grows_as}
use Rattle.journey_audit.proofs.following.ask.Goals as goal

pub returns : goal.returns
returns c =
    let card = c.args.card in
    grows_as _ _ _ _ _ _ refl
    (c.asked_by_some.ensures
    ∙ ap (λ visit. asked_by_some c.onward_card-next.result card visit) c.in_ok-visit.ensures
    ∙ ap (λ next. asked_by_some next card (card.visit + 1)) c.onward_card-next.ensures.exact)
    c.in_ok-note_asked.ensures
