-- What a notice tells is read back.
use Rattle.std.proofs.Common.{◌≡◌, ℕ, ◌^◌, ◌<◌, ◌≤◌, false, List, [], ◌∷◌, ◌++◌, length, min}
use Rattle.std.proofs.Common.{Option, Some, None, refl, sym, ap, ap₂, ◌∙◌, arith, append-nil}
use Rattle.std.proofs.Common.{length-append, inl, inr}
use Rattle.std.specs.Prelude.{IfSome, option_map, unwrap_or, nat_lt, ◌==◌}
use Rattle.std.specs.Option.{option_and_then}
use Rattle.std.proofs.lemmas.Bool.{le-ltb, lt-ltb, eqb-true, cases_Bool}
use Rattle.std.proofs.lemmas.List.{take_at, append_cancel_left}
use Rattle.byteorder.specs.Endian.{big_bytes}
use Rattle.byteorder.specs.Numbers.{big_number-reads_back}
use Rattle.packet_entry.specs.Numbers.{longest_payload, ipv4_type, ipv6_type}
use Rattle.packet_entry.specs.Fields.{IsProtocol}
use Rattle.netlink_codec.specs.Messages.{NetlinkMessage, FitsHeader, message_with, message_text}
use Rattle.netlink_codec.specs.Messages.{first_message, pad}
use Rattle.netlink_codec.specs.Attributes.{Attribute, AllFit, attributes_text}
use Rattle.netlink_codec.specs.Numbers.{kind_limit}
use Rattle.netlink_codec.specs.Fields.{Field}
use Rattle.nfqa_headers.specs.Numbers.{notice_number, packet_header_kind, mark_kind, timestamp_kind}
use Rattle.nfqa_headers.specs.Numbers.{input_device_kind, output_device_kind, payload_kind}
use Rattle.nfqa_headers.specs.Numbers.{hardware_address_kind, full_length_kind, forward_hook}
use Rattle.nfqa_headers.specs.Numbers.{priority_kind, hardware_address_length}
use Rattle.nfqa_msgs.specs.Numbers.{input_device, output_device}
use Rattle.nfqa_headers.specs.Kinds.{queue_kind}
use Rattle.nfqa_headers.specs.Headers.{value_in, bytes_in, byte_text, zeros_text, low_half}
use Rattle.nfqa_headers.specs.Headers.{queue_in, packet_id_field, packet_protocol_field}
use Rattle.nfqa_headers.specs.Headers.{packet_hook_field, value_field, address_field}
use Rattle.nfqa_headers.specs.Headers.{address_filler_field, seconds_field, micros_field}
use Rattle.nfqa_headers.specs.Headers.{packet_head_content, address_content, stamp_content}
use Rattle.nfqa_headers.specs.Headers.{value_content, queue_header_length, value_length}
use Rattle.nfqa_headers.specs.Headers.{packet_header_length, packet_address_length}
use Rattle.nfqa_headers.specs.Headers.{timestamp_length}
use Rattle.nfqa_headers.specs.AttributeReading.{last_content, at_least, nearest_protocol}
use Rattle.nfqa_headers.specs.AttributeWriting.{part}
use Rattle.nfqa_msgs.specs.RequestReading.{row_in}
use Rattle.nfqa_msgs.specs.NoticeWriting.{Told, FitsTold, nonzero_content, payload_content}
use Rattle.nfqa_msgs.specs.NoticeWriting.{notice_parts, notice_body, notice_text}
use Rattle.nfqa_msgs.specs.NoticeReading.{value_at, protocol_at, source_at, payload_at, above}
use Rattle.nfqa_msgs.specs.NoticeReading.{cut_at, told_in, told_by_message, told_by}
use Rattle.nfqa_msgs.proofs.Lengths.{Sizes, notice_body-short, fits-nonzero, fits-address}
use Rattle.nfqa_msgs.proofs.Lengths.{fits-number, fits-payload}
use Rattle.nfqa_msgs.proofs.RequestRoundTrip.{Walks, later-nothing, last_content-append}
use Rattle.nfqa_msgs.proofs.RequestRoundTrip.{last_content-part, fit-append, fit-part}

-- ---- the contents of a notice's parts

record Contents : Type 0 where
  header : Option (List ℕ)
  input : Option (List ℕ)
  output : Option (List ℕ)
  mark : Option (List ℕ)
  priority : Option (List ℕ)
  address : Option (List ℕ)
  stamp : Option (List ℕ)
  cut : Option (List ℕ)
  payload : Option (List ℕ)

-- the parts of a notice that have these contents
abbrev parts_with : Contents → List Attribute
parts_with c =
    part packet_header_kind c.header
    ++ part input_device_kind c.input
    ++ part output_device_kind c.output
    ++ part mark_kind c.mark
    ++ part priority_kind c.priority
    ++ part hardware_address_kind c.address
    ++ part timestamp_kind c.stamp
    ++ part full_length_kind c.cut
    ++ part payload_kind c.payload

with-header : (c : Contents) → last_content packet_header_kind (parts_with c) ≡ c.header
with-header c = simp (last_content-append, last_content-part)

with-mark : (c : Contents) → last_content mark_kind (parts_with c) ≡ c.mark
with-mark c = simp (last_content-append, last_content-part, later-nothing)

with-priority : (c : Contents) → last_content priority_kind (parts_with c) ≡ c.priority
with-priority c = simp (last_content-append, last_content-part, later-nothing)

with-address : (c : Contents) → last_content hardware_address_kind (parts_with c) ≡ c.address
with-address c = simp (last_content-append, last_content-part, later-nothing)

with-stamp : (c : Contents) → last_content timestamp_kind (parts_with c) ≡ c.stamp
with-stamp c = simp (last_content-append, last_content-part, later-nothing)

with-cut : (c : Contents) → last_content full_length_kind (parts_with c) ≡ c.cut
with-cut c = simp (last_content-append, last_content-part, later-nothing)

with-payload : (c : Contents) → last_content payload_kind (parts_with c) ≡ c.payload
with-payload c = simp (last_content-append, last_content-part, later-nothing)

-- each attribute of the row fits
record RowFits (row : List Attribute) : Type 0 where
  all : AllFit row

-- one more part that fits
one-more : (kind : ℕ) (row : List Attribute) (content : Option (List ℕ)) → kind < kind_limit
    → RowFits row → IfSome content (λ bytes. length bytes ≤ longest_payload)
    → RowFits (row ++ part kind content)
one-more kind row content small fits short =
    record { all = fit-append row (part kind content) fits.all (fit-part kind content small short) }

contents_of : Told → Contents
contents_of told = record {
  header = Some (packet_head_content told.id told.protocol);
  input = Some (value_content input_device);
  output = Some (value_content output_device);
  mark = nonzero_content told.mark;
  priority = nonzero_content told.priority;
  address = option_map address_content told.source;
  stamp = Some (stamp_content told.seconds told.micros);
  cut = option_map value_content told.cut_from;
  payload = payload_content told.payload;
}

header-there : (told : Told)
    → last_content packet_header_kind (notice_parts told)
    ≡ Some (packet_head_content told.id told.protocol)
unfolding contents_of
header-there told = with-header (contents_of told)

mark-there : (told : Told)
    → last_content mark_kind (notice_parts told) ≡ nonzero_content told.mark
unfolding contents_of
mark-there told = with-mark (contents_of told)

priority-there : (told : Told)
    → last_content priority_kind (notice_parts told) ≡ nonzero_content told.priority
unfolding contents_of
priority-there told = with-priority (contents_of told)

address-there : (told : Told)
    → last_content hardware_address_kind (notice_parts told)
    ≡ option_map address_content told.source
unfolding contents_of
address-there told = with-address (contents_of told)

stamp-there : (told : Told)
    → last_content timestamp_kind (notice_parts told)
    ≡ Some (stamp_content told.seconds told.micros)
unfolding contents_of
stamp-there told = with-stamp (contents_of told)

cut-there : (told : Told)
    → last_content full_length_kind (notice_parts told) ≡ option_map value_content told.cut_from
unfolding contents_of
cut-there told = with-cut (contents_of told)

payload-there : (told : Told)
    → last_content payload_kind (notice_parts told) ≡ payload_content told.payload
unfolding contents_of
payload-there told = with-payload (contents_of told)

-- ---- what each content says

abbrev long_value : ℕ → Field → Option (List ℕ) → ℕ
long_value n f content = unwrap_or (option_map (value_in f) (at_least n content)) 0

id-back : (id protocol : ℕ) → id < 2 ^ 32 →
    long_value packet_header_length packet_id_field (Some (packet_head_content id protocol)) ≡ id
id-back id protocol fits =
    big_number-reads_back 4 id (big_bytes 2 protocol ++ byte_text packet_hook_field forward_hook)
    fits

nearest-protocol : (protocol : ℕ) → IsProtocol protocol → nearest_protocol protocol ≡ protocol
nearest-protocol protocol known =
    elim (cases_Bool (protocol == ipv6_type)) [
      | inl is ↦ rw is (sym (eqb-true protocol ipv6_type is))
      | inr other ↦
          elim (cases_Bool (protocol == ipv4_type)) [
            | inl is ↦ rw other (sym (eqb-true protocol ipv4_type is))
            | inr neither ↦ let none = rw (neither, other) at known in absurd cc
          ]
    ]

two-bytes : (protocol : ℕ) → IsProtocol protocol → protocol < 2 ^ 16
two-bytes protocol known =
    elim (cases_Bool (protocol == ipv6_type)) [
      | inl is ↦ let e = eqb-true protocol ipv6_type is in omega arith
      | inr other ↦
          elim (cases_Bool (protocol == ipv4_type)) [
            | inl is ↦ let e = eqb-true protocol ipv4_type is in omega arith
            | inr neither ↦ let none = rw (neither, other) at known in absurd cc
          ]
    ]

protocol-back : (id protocol : ℕ) → IsProtocol protocol →
    nearest_protocol
    (unwrap_or (option_map (value_in packet_protocol_field)
    (at_least packet_header_length (Some (packet_head_content id protocol)))) 0) ≡ protocol
protocol-back id protocol known =
    ap nearest_protocol (big_number-reads_back 2 protocol (byte_text packet_hook_field forward_hook)
    (two-bytes protocol known)) ∙ nearest-protocol protocol known

nonzero-back : (n : ℕ) → n < 2 ^ 32 →
    long_value value_length value_field (nonzero_content n) ≡ n
nonzero-back n fits =
    elim (cases_Bool (n == 0)) [
      | inl zero ↦ rw zero (sym (eqb-true n 0 zero))
      | inr other ↦ rw other (big_number-reads_back 4 n [] fits)
    ]

address-back : (source : Option (List ℕ)) →
    IfSome source (λ s. length s ≡ hardware_address_length) →
    option_map (bytes_in address_field)
    (at_least packet_address_length (option_map address_content source)) ≡ source
address-back None fits = refl
address-back (Some s) fits =
    let size : length s ≡ hardware_address_length = fits in
    let long : nat_lt (length (address_content s)) packet_address_length ≡ false =
    le-ltb (length (address_content s)) packet_address_length
    (omega (arith, length-append s (zeros_text address_filler_field))) in
    rw long (ap (λ (xs : List ℕ). Some xs)
    (take_at s (zeros_text address_filler_field) hardware_address_length size))

seconds-back : (seconds micros : ℕ) → seconds < 2 ^ 32 →
    long_value timestamp_length (low_half seconds_field) (Some (stamp_content seconds micros))
    ≡ seconds
seconds-back seconds micros fits = big_number-reads_back 4 seconds (big_bytes 8 micros) fits

micros-back : (seconds micros : ℕ) → micros < 2 ^ 32 →
    long_value timestamp_length (low_half micros_field) (Some (stamp_content seconds micros))
    ≡ micros
micros-back seconds micros fits = big_number-reads_back 4 micros [] fits

payload-back : (payload : List ℕ) → unwrap_or (payload_content payload) [] ≡ payload
payload-back [] = refl
payload-back (x ∷ payload) = refl

cut-back : (shown : ℕ) (cut : Option ℕ) → IfSome cut (λ n. (shown < n) × (n < 2 ^ 32)) →
    above shown (long_value value_length value_field (option_map value_content cut)) ≡ cut
cut-back shown None fits = rw (le-ltb shown 0 (omega arith)) refl
cut-back shown (Some n) fits =
    let back = big_number-reads_back 4 n [] fits.1 in
    ap (above shown) back ∙ rw (lt-ltb shown n fits.0) refl

-- ---- the whole row

pub told_in-back : (told : Told) → FitsTold told → told_in told.queue (notice_parts told) ≡ told
unfolding told_in
told_in-back told fits =
    let id : value_at packet_header_kind packet_header_length packet_id_field (notice_parts told)
    ≡ told.id =
    ap (long_value packet_header_length packet_id_field) (header-there told)
    ∙ id-back told.id told.protocol fits.id_fits in
    let protocol : protocol_at (notice_parts told) ≡ told.protocol =
    ap (λ (o : Option (List ℕ)). nearest_protocol
    (unwrap_or (option_map (value_in packet_protocol_field) (at_least packet_header_length o))
    0)) (header-there told) ∙ protocol-back told.id told.protocol fits.protocol_fits in
    let mark : value_at mark_kind value_length value_field (notice_parts told) ≡ told.mark =
    ap (long_value value_length value_field) (mark-there told)
    ∙ nonzero-back told.mark fits.mark_fits in
    let priority : value_at priority_kind value_length value_field (notice_parts told)
    ≡ told.priority =
    ap (long_value value_length value_field) (priority-there told)
    ∙ nonzero-back told.priority fits.priority_fits in
    let source : source_at (notice_parts told) ≡ told.source =
    ap (λ (o : Option (List ℕ)). option_map (bytes_in address_field)
    (at_least packet_address_length o)) (address-there told)
    ∙ address-back told.source fits.source_fits in
    let seconds : value_at timestamp_kind timestamp_length (low_half seconds_field)
    (notice_parts told) ≡ told.seconds =
    ap (long_value timestamp_length (low_half seconds_field)) (stamp-there told)
    ∙ seconds-back told.seconds told.micros fits.seconds_fit in
    let micros : value_at timestamp_kind timestamp_length (low_half micros_field)
    (notice_parts told) ≡ told.micros =
    ap (long_value timestamp_length (low_half micros_field)) (stamp-there told)
    ∙ micros-back told.seconds told.micros fits.micros_fit in
    let payload : payload_at (notice_parts told) ≡ told.payload =
    ap (λ (o : Option (List ℕ)). unwrap_or o []) (payload-there told)
    ∙ payload-back told.payload in
    let cut : cut_at (notice_parts told) ≡ told.cut_from =
    ap₂ (λ (xs : List ℕ) (o : Option (List ℕ)). above (length xs)
    (long_value value_length value_field o)) payload (cut-there told)
    ∙ cut-back (length told.payload) told.cut_from fits.cut_fits in
    rw (id, protocol, mark, priority, source, seconds, micros, cut, payload) refl

pub parts-fit : (told : Told) → FitsTold told → AllFit (notice_parts told)
parts-fit told fits =
    let header : List ℕ = packet_head_content told.id told.protocol in
    let a : RowFits (part packet_header_kind (Some header)) =
    record { all = fit-part packet_header_kind (Some header) (omega arith) (omega arith) } in
    let b = one-more input_device_kind _ (Some (value_content input_device)) (omega arith) a
    (omega arith) in
    let d = one-more output_device_kind _ (Some (value_content output_device)) (omega arith) b
    (omega arith) in
    let e = one-more mark_kind _ (nonzero_content told.mark) (omega arith) d
    (fits-nonzero told.mark) in
    let f = one-more priority_kind _ (nonzero_content told.priority) (omega arith) e
    (fits-nonzero told.priority) in
    let address = fits-address told.source fits.source_fits in
    let g = one-more hardware_address_kind _ (option_map address_content told.source) (omega arith)
    f address in
    let stamp : List ℕ = stamp_content told.seconds told.micros in
    let h = one-more timestamp_kind _ (Some stamp) (omega arith) g (omega arith) in
    let cut = fits-number told.cut_from in
    let i = one-more full_length_kind _ (option_map value_content told.cut_from) (omega arith) h cut
    in
    let payload = fits-payload told.payload fits.payload_fits in
    let j = one-more payload_kind _ (payload_content told.payload) (omega arith) i payload in
    j.all

-- ---- the whole text

abbrev pub notice_message : Told → NetlinkMessage
notice_message told = message_with (queue_kind notice_number) 0 0 0 (notice_body told)

pub notice-fits : Sizes → (told : Told) → FitsTold told → FitsHeader (notice_message told)
notice-fits sizes told fits =
    let short = notice_body-short sizes told fits in
    record {
      kind = omega arith;
      flags = omega arith;
      sequence = omega arith;
      port = omega arith;
      length = omega arith;
    }

message-back : Walks → (told : Told) (used : ℕ) → FitsTold told →
    told_by_message (notice_message told, used) ≡ Some told
message-back walks told used fits =
    let row : List Attribute = notice_parts told in
    let long : nat_lt (length (notice_body told)) queue_header_length ≡ false =
    le-ltb (length (notice_body told)) queue_header_length (omega arith) in
    let queue : queue_in (notice_body told) ≡ told.queue =
    big_number-reads_back 2 told.queue (attributes_text row) fits.queue_fits in
    let walked : row_in (notice_body told) ≡ row = walks row (parts-fit told fits) in
    rw long (ap₂ (λ (q : ℕ) (r : List Attribute). Some (told_in q r)) queue walked
    ∙ ap (λ (t : Told). Some t) (told_in-back told fits))

-- reading begins with the message, as the codec's law says
abbrev pub Fronts : Type 0
Fronts = (body behind : List ℕ) → FitsHeader (message_with (queue_kind notice_number) 0 0 0 body)
    → first_message (message_text (queue_kind notice_number) 0 0 0 body ++ behind)
    ≡ Some (
      message_with (queue_kind notice_number) 0 0 0 body,
      min (pad (length (message_text (queue_kind notice_number) 0 0 0 body)))
          (length (message_text (queue_kind notice_number) 0 0 0 body ++ behind)),
    )

pub told_by-back : Sizes → Walks → Fronts → (told : Told) → FitsTold told →
    told_by (notice_text told) ≡ Some told
unfolding told_by notice_text
told_by-back sizes walks fronts told fits =
    let text : List ℕ = message_text (queue_kind notice_number) 0 0 0 (notice_body told) in
    let read = fronts (notice_body told) [] (notice-fits sizes told fits) in
    ap told_by (sym (append-nil text)) ∙ ap (option_and_then told_by_message) read
    ∙ message-back walks told (min (pad (length text)) (length (text ++ []))) fits

pub one_value : Sizes → Walks → Fronts → (told other : Told) → FitsTold told → FitsTold other →
    notice_text told ≡ notice_text other → told ≡ other
one_value sizes walks fronts told other fits others same =
    let both =
    sym (told_by-back sizes walks fronts told fits) ∙ ap told_by same
    ∙ told_by-back sizes walks fronts other others in cc

abbrev framed : NetlinkMessage × ℕ → Option (NetlinkMessage × ℕ)
framed front = Some front

same-front : (front other : NetlinkMessage × ℕ) → framed front ≡ framed other → front ≡ other
same-front front other same = cc

-- texts that begin alike are the same
pub apart : Sizes → Fronts → (told other : Told) (behind rest : List ℕ) → FitsTold told
    → FitsTold other → notice_text told ++ behind ≡ notice_text other ++ rest
    → notice_text told ≡ notice_text other
unfolding notice_text
apart sizes fronts told other behind rest fits others same =
    let a = fronts (notice_body told) behind (notice-fits sizes told fits) in
    let b = fronts (notice_body other) rest (notice-fits sizes other others) in
    let one = same-front _ _ (sym a ∙ ap first_message same ∙ b) in
    ap (λ (front : NetlinkMessage × ℕ). front.0.whole) one

pub no_prefix : Sizes → Fronts → (told other : Told) (behind : List ℕ) → FitsTold told
    → FitsTold other → notice_text other ≡ notice_text told ++ behind → behind ≡ []
no_prefix sizes fronts told other behind fits others longer =
    let text : List ℕ = notice_text told in
    let whole : List ℕ = notice_text other in
    let same : text ≡ whole =
    apart sizes fronts told other behind [] fits others (sym longer ∙ sym (append-nil whole)) in
    append_cancel_left text behind [] (sym longer ∙ sym same ∙ sym (append-nil text))
