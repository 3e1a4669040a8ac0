use Rattle.std.proofs.Common.{ℕ, List, ◌++◌, ap, ap₂, sym, ◌∙◌}
use Rattle.std.proofs.Common.{append_assoc, append-nil}
use Rattle.netlink_codec.specs.Attributes.{attribute_text}
use Rattle.nfqa_headers.proofs.attribute_writing.put_part.Goals as goal

-- header, content and zeros are one attribute
pub returns-clause-text : goal.returns-clause-text
unfolding attribute_text
returns-clause-text c =
    let old : List ℕ = c.args.parts.now.items in
    let header : List ℕ = c.attr_header.result in
    let content : List ℕ = c.args.content.now in
    let zeros : List ℕ = c.zeros_behind.result.now in
    c.put_bytes-3.ensures.text
    ∙ ap (λ (xs : List ℕ). xs ++ zeros)
    (c.put_bytes-2.ensures.text ∙ ap (λ (xs : List ℕ). xs ++ content) c.put_bytes.ensures.text)
    ∙ append_assoc (old ++ header) content zeros
    ∙ append_assoc old header (content ++ zeros)
    ∙ ap₂ (λ (h z : List ℕ). old ++ (h ++ (content ++ z))) c.attr_header.ensures
    c.zeros_behind.ensures
    ∙ ap (λ (xs : List ℕ). old ++ xs)
    (sym (append-nil (attribute_text (record { kind = c.args.kind; content = content }))))
