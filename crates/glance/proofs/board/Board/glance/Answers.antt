use Rattle.std.proofs.Common.{ap, sym, ◌∙◌, ◌++◌, ◌∷◌, [], rules}
use Rattle.glance.specs.Views.{readings_of, PassView}
use Rattle.glance.proofs.Readings.{read_more, unread_more}
use Rattle.glance.proofs.StepRule.{reads}
use Rattle.glance.proofs.board.Board.glance.Goals as goal

pub load-word-requires : goal.load-word-requires
load-word-requires c = (search rules, search rules, reads _ _ _ _ _)

pub returns-clause-added : goal.returns-clause-added
returns-clause-added c =
    let e = c.load-word.ensures.2 in
    ap (λ m. readings_of c.args.place m.0.readings) e.read
    ∙ (read_more c.args.place c.pass.inside.seat.me.0.readings c.from.result e.published
    c.from.ensures
    ∙ (ap (λ t. readings_of c.args.place c.pass.inside.seat.me.0.readings ++ t ∷ [])
    (sym e.last ∙ sym c.of_word.ensures)
    ∙ ap (λ (p : PassView). readings_of c.args.place p.readings ++ c.of_word.result ∷ [])
    c.pass.view_is))

pub returns-clause-others : goal.returns-clause-others
returns-clause-others c k ne =
    let e = c.load-word.ensures.2 in
    ap (λ m. readings_of k m.0.readings) e.read
    ∙ (unread_more k c.pass.inside.seat.me.0.readings c.from.result e.published
    (λ is. ne (sym is ∙ c.from.ensures))
    ∙ ap (λ (p : PassView). readings_of k p.readings) c.pass.view_is)
