use Rattle.std.proofs.Common.{◌≡◌, ℕ, List, ◌++◌, Some, ap, ◌∙◌}
use Rattle.std.specs.Prelude.{option_map}
use Rattle.netlink_codec.specs.Attributes.{Attribute, attributes_text}
use Rattle.nfqa_headers.specs.Numbers.{packet_header_kind, input_device_kind, output_device_kind}
use Rattle.nfqa_headers.specs.Numbers.{mark_kind, hardware_address_kind, timestamp_kind}
use Rattle.nfqa_headers.specs.Numbers.{priority_kind, full_length_kind}
use Rattle.nfqa_msgs.specs.Numbers.{input_device, output_device}
use Rattle.nfqa_headers.specs.Headers.{queue_header, packet_head_content, address_content}
use Rattle.nfqa_headers.specs.Headers.{stamp_content, value_content}
use Rattle.nfqa_headers.specs.AttributeWriting.{part, value_part}
use Rattle.nfqa_msgs.specs.NoticeWriting.{Told, family_of, nonzero_content}
use Rattle.nfqa_msgs.specs.Telling.{telling}
use Rattle.nfqa_msgs.proofs.Lengths.{row-goes-on}
use Rattle.nfqa_msgs.proofs.notice_writing.parts_before.Goals as goal

-- each call appends one more part to the row
pub returns-clause-text : goal.returns-clause-text
returns-clause-text c =
    let told : Told = telling c.args.told.now in
    let head : List ℕ = queue_header (family_of told.protocol) told.queue in
    let a : List Attribute =
    part packet_header_kind (Some (packet_head_content told.id told.protocol)) in
    let b : List Attribute = part input_device_kind (Some (value_content input_device)) in
    let d : List Attribute = part output_device_kind (Some (value_content output_device)) in
    let e : List Attribute = part mark_kind (nonzero_content told.mark) in
    let f : List Attribute = part priority_kind (nonzero_content told.priority) in
    let g : List Attribute = part hardware_address_kind (option_map address_content told.source) in
    let h : List Attribute = part timestamp_kind (Some (stamp_content told.seconds told.micros)) in
    let i : List Attribute = value_part full_length_kind told.cut_from in
    let start : c.begin_body-parts.result.items ≡ head =
    c.begin_body-parts.ensures.text ∙ ap (λ (family : ℕ). queue_header family told.queue) c.family.ensures in
    let one : c.put_packet_header.new.parts.items ≡ head ++ attributes_text a =
    c.put_packet_header.ensures.text ∙ ap (λ (xs : List ℕ). xs ++ attributes_text a) start in
    let two = row-goes-on head _ c.put_value.new.parts.items a b one c.put_value.ensures.text in
    let three =
    row-goes-on head _ c.put_value-2.new.parts.items (a ++ b) d two
    c.put_value-2.ensures.text in
    let four =
    row-goes-on head _ c.put_nonzero.new.parts.items (a ++ b ++ d) e three
    c.put_nonzero.ensures.text in
    let five =
    row-goes-on head _ c.put_nonzero-2.new.parts.items (a ++ b ++ d ++ e) f four
    c.put_nonzero-2.ensures.text in
    let six =
    row-goes-on head _ c.put_address.new.parts.items (a ++ b ++ d ++ e ++ f) g five
    c.put_address.ensures.text in
    let seven =
    row-goes-on head _ c.put_stamp.new.parts.items (a ++ b ++ d ++ e ++ f ++ g) h six
    c.put_stamp.ensures.text in
    row-goes-on head _ c.put_value-3.new.parts.items (a ++ b ++ d ++ e ++ f ++ g ++ h) i seven
    c.put_value-3.ensures.text
