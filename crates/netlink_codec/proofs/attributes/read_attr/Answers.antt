use Rattle.std.proofs.Common.{◌≡◌, ℕ, List, ◌+◌, ◌-◌, ◌%◌, take, drop, sym, ap, ap₂, ◌∙◌, arith}
use Rattle.std.proofs.lemmas.List.{drop-take}
use Rattle.std.proofs.lemmas.Nat.{and_mask}
use Rattle.netlink_codec.specs.Numbers.{attribute_header_length, kind_limit}
use Rattle.netlink_codec.proofs.Rows.{attribute}
use Rattle.netlink_codec.proofs.attributes.read_attr.Goals as goal

pub returns-clause-attr : goal.returns-clause-attr
returns-clause-attr c =
    let bytes : List ℕ = c.args.bytes.now in
    let header = c.read_attribute_header-header.result in
    let content_length : ℕ = header.length - attribute_header_length in
    let split : attribute_header_length + content_length ≡ header.length = omega arith in
    let kind = and_mask header.kind 14
    ∙ ap (λ (n : ℕ). n % kind_limit) c.read_attribute_header-header.ensures.kind in
    let content = sym (drop-take attribute_header_length content_length bytes)
    ∙ ap (λ (n : ℕ). drop attribute_header_length (take n bytes))
    (split ∙ c.read_attribute_header-header.ensures.length) in
    ap₂ attribute kind content
