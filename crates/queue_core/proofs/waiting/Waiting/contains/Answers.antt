use Rattle.std.proofs.Common.{sym, ◌∙◌, ap}
use Rattle.std.specs.Map.{keys_of}
use Rattle.queue_core.specs.Few.{Waiting, is_older, is_no_older}
use Rattle.queue_core.specs.Ids.{is_among}
use Rattle.queue_core.proofs.waiting.Waiting.contains.Goals as goal

pub returns-then-is_some : goal.returns-then-is_some
returns-then-is_some c =
    c.if-is_some.true
    ∙ sym (is_older c.args.id c.self.inside.few.items c.self.inside.many c.place_of.result
    c.place_of.ensures (sym c.is_some.ensures ∙ c.if-is_some.true))
    ∙ ap (λ (ws : Waiting). is_among (keys_of ws) c.args.id) c.self.view_is

pub returns-else-is_some : goal.returns-else-is_some
returns-else-is_some c =
    c.contains.ensures
    ∙ sym (is_no_older c.args.id c.self.inside.few.items c.self.inside.many c.place_of.result
    c.place_of.ensures (sym c.is_some.ensures ∙ c.if-is_some.false))
    ∙ ap (λ (ws : Waiting). is_among (keys_of ws) c.args.id) c.self.view_is
