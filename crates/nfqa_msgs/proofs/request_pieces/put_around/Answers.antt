use Rattle.std.proofs.Common.{◌≡◌, ℕ, List, ◌+◌, ◌++◌, length, Option, ap, subst, sym, ◌∙◌}
use Rattle.std.specs.Prelude.{option_map}
use Rattle.std.specs.Borrow.{Bor}
use Rattle.packet_entry.specs.declared.bytes.Bytes.{Bytes}
use Rattle.netlink_codec.specs.Attributes.{attribute_header_text, attributes_text, zero_padding}
use Rattle.netlink_codec.specs.Numbers.{attribute_header_length}
use Rattle.nfqa_headers.specs.AttributeWriting.{part}
use Rattle.nfqa_headers.specs.Numbers.{payload_kind}
use Rattle.nfqa_msgs.proofs.NoticeSpelling.{attribute_around}
use Rattle.nfqa_msgs.proofs.request_pieces.put_around.Goals as goal

pub returns-in-Some-clause-text : goal.returns-in-Some-clause-text
returns-in-Some-clause-text c =
    let old : List ℕ = c.args.before.now.items in
    let content : List ℕ = c.in-Some.bytes.now in
    let before : List ℕ = c.put_bytes.new.parts.items in
    let middle : List ℕ = c.as_slice-in-Some.result.now in
    let after : List ℕ = c.put_bytes-in-Some.new.parts.items in
    let zeros : List ℕ = c.zeros_behind.result.now in
    let P : Option (Bor Bytes) → Type 0 =
    λ payload. before ++ middle ++ after
    ≡ old ++ attributes_text (part payload_kind (option_map (λ bytes. bytes.now) payload)) in
    subst P (sym c.in-Some.is)
    (attribute_around old content before middle after
    (c.put_bytes.ensures.text ∙ ap (λ (xs : List ℕ). old ++ xs)
    (c.attr_header.ensures
    ∙ ap (λ (n : ℕ). attribute_header_text payload_kind (attribute_header_length + n))
    c.len.ensures))
    c.as_slice-in-Some.ensures
    (c.put_bytes-in-Some.ensures.text ∙ ap (λ (xs : List ℕ). xs ++ zeros) c.requires.none
    ∙ c.zeros_behind.ensures
    ∙ ap (λ (xs : List ℕ). zero_padding (attribute_header_length + length xs))
    c.as_slice.ensures))
