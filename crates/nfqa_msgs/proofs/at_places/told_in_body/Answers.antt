use Rattle.std.proofs.Common.{◌≡◌, ℕ, ◌++◌, ◌∙◌, List, Some, ap}
use Rattle.std.specs.Prelude.{option_map}
use Rattle.netlink_codec.specs.Attributes.{Attribute, attributes_text}
use Rattle.nfqa_headers.specs.AttributeWriting.{part, value_part}
use Rattle.nfqa_headers.specs.Headers.{address_content, packet_head_content, queue_header}
use Rattle.nfqa_headers.specs.Headers.{stamp_content, value_content}
use Rattle.nfqa_headers.specs.Numbers.{full_length_kind, hardware_address_kind, input_device_kind}
use Rattle.nfqa_headers.specs.Numbers.{mark_kind, output_device_kind, packet_header_kind}
use Rattle.nfqa_headers.specs.Numbers.{priority_kind, timestamp_kind}
use Rattle.nfqa_msgs.specs.Numbers.{input_device, output_device}
use Rattle.nfqa_msgs.specs.NoticeWriting.{family_of, nonzero_content, payload_part}
use Rattle.nfqa_msgs.proofs.AtPlaces.{row_begins, row_ends, row_on}
use Rattle.nfqa_msgs.proofs.at_places.told_in_body.Goals as goal

-- an attribute of this kind, whose content is known in another word
known : (kind : ℕ) (content other bytes rest : List ℕ) → content ≡ other →
    bytes ≡ attributes_text (part kind (Some content)) ++ rest →
    bytes ≡ attributes_text (part kind (Some other)) ++ rest
known kind content other bytes rest same is =
    is ∙ ap (λ (xs : List ℕ). attributes_text (part kind (Some xs)) ++ rest) same

-- each step finds one more part of the row
pub returns-clause-text : goal.returns-clause-text
returns-clause-text c =
    let body : List ℕ = c.args.body.now in
    let protocol : ℕ = c.read_u16-protocol.result in
    let id : ℕ = c.read_u32-id.result in
    let head : List ℕ = queue_header (family_of protocol) c.read_queue-queue.result in
    let x0 : List ℕ = c.in_ok-rest.rest.now in
    let x1 : List ℕ = c.in_ok-rest-2.rest.now in
    let x2 : List ℕ = c.in_ok-rest-3.rest.now in
    let x3 : List ℕ = c.in_ok-rest-4.rest.now in
    let x4 : List ℕ = c.nonzero_at-mark.result.1.now in
    let x5 : List ℕ = c.nonzero_at-priority.result.1.now in
    let x6 : List ℕ = c.source_at.result.1.now in
    let x7 : List ℕ = c.in_ok-seconds.rest.now in
    let x8 : List ℕ = c.value_at-cut_from.result.1.now in
    let a : List Attribute = part packet_header_kind (Some (packet_head_content id protocol)) in
    let b : List Attribute = part input_device_kind (Some (value_content input_device)) in
    let d : List Attribute = part output_device_kind (Some (value_content output_device)) in
    let e : List Attribute = part mark_kind (nonzero_content c.nonzero_at-mark.result.0) in
    let f : List Attribute = part priority_kind (nonzero_content c.nonzero_at-priority.result.0) in
    let g : List Attribute =
    part hardware_address_kind (option_map address_content
    (option_map (λ source. source.now) c.source_at.result.0)) in
    let h : List Attribute =
    part timestamp_kind (Some (stamp_content c.in_ok-seconds.seconds c.in_ok-seconds.micros)) in
    let i : List Attribute = value_part full_length_kind c.value_at-cut_from.result.0 in
    let start : body ≡ head ++ x0 =
    c.in_ok-rest.ensures ∙ ap (λ (xs : List ℕ). xs ++ x0)
    (c.queue_header_of.ensures
    ∙ ap (λ (family : ℕ). queue_header family c.read_queue-queue.result) c.family.ensures) in
    let one = row_begins head a body x0 x1 start
    (known packet_header_kind _ (packet_head_content id protocol) x0 x1 c.packet_head_of.ensures
    c.in_ok-rest-2.ensures) in
    let two = row_on head a b body x1 x2 one
    (known input_device_kind _ (value_content input_device) x1 x2 c.value_bytes.ensures
    c.in_ok-rest-3.ensures) in
    let three = row_on head (a ++ b) d body x2 x3 two
    (known output_device_kind _ (value_content output_device) x2 x3 c.value_bytes-2.ensures
    c.in_ok-rest-4.ensures) in
    let four = row_on head (a ++ b ++ d) e body x3 x4 three c.nonzero_at-mark.ensures in
    let five = row_on head (a ++ b ++ d ++ e) f body x4 x5 four c.nonzero_at-priority.ensures in
    let six = row_on head (a ++ b ++ d ++ e ++ f) g body x5 x6 five c.source_at.ensures.text in
    let seven = row_on head (a ++ b ++ d ++ e ++ f ++ g) h body x6 x7 six c.in_ok-seconds.ensures in
    let eight = row_on head (a ++ b ++ d ++ e ++ f ++ g ++ h) i body x7 x8 seven
    c.value_at-cut_from.ensures in
    row_ends head (a ++ b ++ d ++ e ++ f ++ g ++ h ++ i) (payload_part c.in_ok-payload.payload.now)
    body x8 eight c.in_ok-payload.ensures.text
