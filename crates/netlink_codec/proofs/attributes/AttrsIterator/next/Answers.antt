use Rattle.std.proofs.Common.{◌≡◌, [], ◌∷◌, length, sym, ap, ap₂, ◌∙◌, rules}
use Rattle.netlink_codec.specs.Attributes.{attributes}
use Rattle.netlink_codec.proofs.Rows.{attributes-step, attributes-end}
use Rattle.netlink_codec.proofs.attributes.AttrsIterator.next.Goals as goal

pub returns-in_err-attr-clause-steps : goal.returns-in_err-attr-clause-steps
returns-in_err-attr-clause-steps c =
    let none : c.args.self.now ≡ [] = sym c.self.view_is
    ∙ attributes-end c.self.inside.rest.now c.in_err-attr.ensures.none in
    rw c.from_residual.ensures (none, none)

pub returns-clause-steps : goal.returns-clause-steps
returns-clause-steps c =
    sym c.self.view_is ∙ attributes-step c.self.inside.rest.now c.in_ok-attr.ensures.there
    ∙ sym (ap₂ ◌∷◌ c.in_ok-attr.ensures.attr (ap attributes c.in_ok-attr.ensures.rest))

pub returns-clause-goes : goal.returns-clause-goes
returns-clause-goes c =
    let step = sym c.self.view_is
    ∙ attributes-step c.self.inside.rest.now c.in_ok-attr.ensures.there
    ∙ sym (ap₂ ◌∷◌ c.in_ok-attr.ensures.attr (ap attributes c.in_ok-attr.ensures.rest)) in
    let shorter = ap length step in search rules
