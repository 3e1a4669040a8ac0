use Rattle.std.proofs.Common.{List, sym, subst, ◌∙◌, arith}
use Rattle.netlink_codec.specs.Attributes.{Attribute, Holds}
use Rattle.netlink_codec.proofs.Rows.{Holds-attributes, attributes-Holds}
use Rattle.netlink_codec.proofs.attributes.walk_attrs.Goals as goal

pub returns-clause-held : goal.returns-clause-held
returns-clause-held c =
    let P : List Attribute → Type 0 = λ row. Holds c.args.body.now row in
    subst P (sym c.new.ensures)
    (attributes-Holds c.args.body.now (λ i. omega (arith, c.type_inv.body i)))

pub returns-clause-only : goal.returns-clause-only
returns-clause-only c = λ row held. c.new.ensures ∙ Holds-attributes row c.args.body.now held
