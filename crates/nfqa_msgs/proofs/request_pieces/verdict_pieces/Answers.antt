use Rattle.std.proofs.Common.{◌≡◌, ℕ, List, ◌++◌, ap, sym, ◌∙◌, append_assoc}
use Rattle.std.specs.Prelude.{option_map}
use Rattle.netlink_codec.specs.Attributes.{Attribute, attributes_text}
use Rattle.nfqa_headers.specs.AttributeWriting.{head_part, part, value_part}
use Rattle.nfqa_headers.specs.Headers.{queue_header}
use Rattle.nfqa_headers.specs.Numbers.{any_family, mark_kind, payload_kind, priority_kind}
use Rattle.nfqa_msgs.proofs.Lengths.{row-goes-on}
use Rattle.nfqa_msgs.proofs.request_pieces.verdict_pieces.Goals as goal

-- each call puts one more part behind the row
pub returns-clause-text : goal.returns-clause-text
returns-clause-text c =
    let head : List ℕ = queue_header any_family c.args.queue in
    let a : List Attribute = head_part c.args.head in
    let b : List Attribute = value_part mark_kind c.args.mark in
    let d : List Attribute =
    part payload_kind (option_map (λ bytes. bytes.now) c.args.payload) in
    let e : List Attribute = value_part priority_kind c.args.priority in
    let front : List ℕ =
    c.put_around-payload.new.before.items ++ c.put_around-payload.result.now in
    let after : List ℕ = c.put_around-payload.new.after.items in
    let one : c.put_head.new.parts.items ≡ head ++ attributes_text a =
    c.put_head.ensures.text
    ∙ ap (λ (xs : List ℕ). xs ++ attributes_text a) c.begin_body-before.ensures.text in
    let two =
    row-goes-on head _ c.put_value.new.parts.items a b one c.put_value.ensures.text in
    let three =
    row-goes-on head _ (front ++ after) (a ++ b) d two c.put_around-payload.ensures.text in
    row-goes-on head (front ++ after) (front ++ c.put_value-2.new.parts.items) (a ++ b ++ d) e three
    (ap (λ (xs : List ℕ). front ++ xs) c.put_value-2.ensures.text
    ∙ sym (append_assoc front after (attributes_text e)))
