use Rattle.std.proofs.Common.{◌≡◌, ◌≤◌, ℕ, List, ◌+◌, ◌-◌, ◌++◌, length, take, replicate, ap}
use Rattle.std.proofs.Common.{◌∙◌, append_assoc, arith}
use Rattle.std.proofs.lemmas.List.{length-replicate, take-replicate}
use Rattle.netlink_codec.specs.Numbers.{alignment, attribute_header_length}
use Rattle.netlink_codec.specs.Attributes.{attribute_text, zero_padding}
use Rattle.netlink_codec.specs.Messages.{pad}
use Rattle.netlink_codec.proofs.attributes.put_attr.Goals as goal

pub returns-clause-ok : goal.returns-clause-ok
unfolding attribute_text
returns-clause-ok c =
    let old : List ℕ = c.args.out.now.items in
    let header : List ℕ = c.attr_header-header.result in
    let body : List ℕ = c.args.body.now in
    let total : ℕ = attribute_header_length + length body in
    let count : ℕ = c.attr_padding.result in
    let most : count ≤ alignment = omega (arith, c.attr_padding.ensures.below) in
    let zeros : List ℕ = take count (replicate alignment 0) in
    let padding : zeros ≡ zero_padding total =
    take-replicate count alignment 0 most
    ∙ ap (λ (n : ℕ). replicate n 0)
    (c.attr_padding.ensures.value ∙ length-replicate (pad total - total) 0) in
    let text : (old ++ header ++ body) ++ zeros ≡ old ++ ((header ++ body) ++ zeros) =
    ap (λ (xs : List ℕ). xs ++ zeros) (append_assoc old header body)
    ∙ append_assoc old (header ++ body) zeros in
    rw (text, c.attr_header-header.ensures, padding) at c.append_parts.ensures.ok
