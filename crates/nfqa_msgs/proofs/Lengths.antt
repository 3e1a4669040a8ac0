-- How long the texts of attributes are.
use Rattle.std.proofs.Common.{◌≡◌, ℕ, ◌+◌, ◌^◌, ◌<◌, ◌≤◌, List, [], ◌∷◌, ◌++◌, length, Option}
use Rattle.std.proofs.Common.{Some, None, refl, sym, ap, ◌∙◌, arith, append_assoc, length-append}
use Rattle.std.proofs.Common.{inl, inr}
use Rattle.std.specs.Prelude.{IfSome, option_map, ◌==◌}
use Rattle.std.proofs.lemmas.Bool.{cases_Bool}
use Rattle.std.proofs.lemmas.List.Concat.{flat_map-append}
use Rattle.packet_entry.specs.Numbers.{longest_payload}
use Rattle.netlink_codec.specs.Messages.{pad}
use Rattle.netlink_codec.specs.Attributes.{Attribute}
use Rattle.netlink_codec.specs.Numbers.{attribute_header_length}
use Rattle.netlink_codec.specs.Attributes.{attribute_text, attributes_text}
use Rattle.nfqa_headers.specs.declared.verdict_header.Head.{Head}
use Rattle.nfqa_headers.specs.declared.params.Params.{Params}
use Rattle.nfqa_msgs.specs.declared.request.Request.{Request}
use Rattle.nfqa_msgs.specs.declared.request.Request.TheVariants.{Config, Verdict, Batch}
use Rattle.nfqa_headers.specs.Numbers.{command_kind, params_kind, maxlen_kind, mask_kind}
use Rattle.nfqa_headers.specs.Numbers.{flags_kind, verdict_header_kind, mark_kind, payload_kind}
use Rattle.nfqa_headers.specs.Numbers.{packet_header_kind, input_device_kind, output_device_kind}
use Rattle.nfqa_headers.specs.Numbers.{hardware_address_kind, timestamp_kind, full_length_kind}
use Rattle.nfqa_headers.specs.Numbers.{priority_kind, hardware_address_length}
use Rattle.nfqa_msgs.specs.Numbers.{input_device, output_device}
use Rattle.nfqa_headers.specs.Headers.{command_content, params_content, head_content}
use Rattle.nfqa_headers.specs.Headers.{packet_head_content, address_content, stamp_content}
use Rattle.nfqa_headers.specs.Headers.{value_content, zeros_text, address_filler_field}
use Rattle.nfqa_headers.specs.AttributeWriting.{part}
use Rattle.nfqa_msgs.specs.RequestReading.{PayloadFits}
use Rattle.nfqa_msgs.specs.RequestWriting.{request_body}
use Rattle.nfqa_msgs.specs.NoticeWriting.{Told, FitsTold, notice_body, nonzero_content}
use Rattle.nfqa_msgs.specs.NoticeWriting.{payload_content}

-- the text of an attribute is its length rounded up, as the codec's law says
abbrev pub Sizes : Type 0
Sizes = (a : Attribute) →
    length (attribute_text a) ≡ pad (attribute_header_length + length a.content)

-- the text of two rows
pub length-rows : (xs ys : List Attribute) →
    length (attributes_text (xs ++ ys)) ≡ length (attributes_text xs) + length (attributes_text ys)
length-rows xs ys = rw flat_map-append (length-append (attributes_text xs) (attributes_text ys))

-- a row's text has at most n bytes
record IsWithin (n : ℕ) (row : List Attribute) : Type 0 where
  size : length (attributes_text row) ≤ n

fits-command : (command : Option ℕ) →
    IfSome (option_map command_content command) (λ bytes. length bytes ≤ longest_payload)
fits-command None = tt
fits-command (Some x) = omega arith

fits-params : (params : Option Params) →
    IfSome (option_map params_content params) (λ bytes. length bytes ≤ longest_payload)
fits-params None = tt
fits-params (Some x) = omega arith

fits-head : (head : Option Head) →
    IfSome (option_map head_content head) (λ bytes. length bytes ≤ longest_payload)
fits-head None = tt
fits-head (Some x) = omega arith

pub fits-number : (number : Option ℕ) →
    IfSome (option_map value_content number) (λ bytes. length bytes ≤ longest_payload)
fits-number None = tt
fits-number (Some x) = omega arith

-- one more part behind a body's row
pub row-goes-on : (head old new : List ℕ) (row more : List Attribute) →
    old ≡ head ++ attributes_text row → new ≡ old ++ attributes_text more →
    new ≡ head ++ attributes_text (row ++ more)
row-goes-on head old new row more so_far step =
    step ∙ ap (λ (xs : List ℕ). xs ++ attributes_text more) so_far
    ∙ append_assoc head (attributes_text row) (attributes_text more)
    ∙ ap (λ (xs : List ℕ). head ++ xs) (sym (flat_map-append attribute_text row more))

pub fits-nonzero : (n : ℕ) → IfSome (nonzero_content n) (λ bytes. length bytes ≤ longest_payload)
fits-nonzero n =
    elim (cases_Bool (n == 0)) [ inl zero ↦ rw zero tt | inr other ↦ rw other (omega arith) ]

pub fits-address : (source : Option (List ℕ)) →
    IfSome source (λ s. length s ≡ hardware_address_length) →
    IfSome (option_map address_content source) (λ bytes. length bytes ≤ longest_payload)
fits-address None short = tt
fits-address (Some s) short = let size : length s ≡ hardware_address_length = short in
    omega (arith, length-append s (zeros_text address_filler_field))

pub fits-payload : (payload : List ℕ) → length payload ≤ longest_payload →
    IfSome (payload_content payload) (λ bytes. length bytes ≤ longest_payload)
fits-payload [] short = tt
fits-payload (x ∷ payload) short = short

-- ---- lengths, by the sizes of attributes

module _ (sizes : Sizes) where
  -- a row's text is padded
  pub padded-row : (row : List Attribute) →
      pad (length (attributes_text row)) ≡ length (attributes_text row)
  padded-row [] = refl
  padded-row (a ∷ row) =
      let size = length-append (attribute_text a) (attributes_text row) in
      let first = sizes a in
      let others = padded-row row in
      omega arith

  -- a part is as long as its content and its header, padded
  one-part : (kind : ℕ) (content : Option (List ℕ))
      → IfSome content (λ bytes. length bytes ≤ longest_payload)
      → IsWithin 65536 (part kind content)
  one-part kind None short = record { size = omega arith }
  one-part kind (Some content) short =
      let a : Attribute = record { kind = kind; content = content } in
      record { size = omega (arith, sizes a, length-append (attribute_text a) []) }

  one-more : (kind : ℕ) (row : List Attribute) (content : Option (List ℕ)) (n : ℕ) → IsWithin n row
      → IfSome content (λ bytes. length bytes ≤ longest_payload)
      → IsWithin (n + 65536) (row ++ part kind content)
  one-more kind row content n so_far short =
      let part_short = one-part kind content short in
      record {
        size = omega (
          arith,
          length-rows row (part kind content),
          so_far.size,
          part_short.size,
        );
      }

  -- a body of a request is far shorter than a message can be
  pub request_body-short : (request : Request) → PayloadFits request
      → length (request_body request) < 2 ^ 31
  request_body-short (Config queue command params maxlen flags mask) fits =
      let a = one-part command_kind _ (fits-command command) in
      let b = one-more params_kind _ _ _ a (fits-params params) in
      let d = one-more maxlen_kind _ _ _ b (fits-number maxlen) in
      let e = one-more mask_kind _ _ _ d (fits-number mask) in
      let f = one-more flags_kind _ _ _ e (fits-number flags) in
      omega arith
  request_body-short (Verdict queue head mark payload priority) fits =
      let a = one-part verdict_header_kind _ (fits-head head) in
      let b = one-more mark_kind _ _ _ a (fits-number mark) in
      let d = one-more payload_kind _ payload _ b fits in
      let e = one-more priority_kind _ _ _ d (fits-number priority) in
      omega arith
  request_body-short (Batch queue head mark priority) fits =
      let a = one-part verdict_header_kind _ (fits-head head) in
      let b = one-more mark_kind _ _ _ a (fits-number mark) in
      let d = one-more priority_kind _ _ _ b (fits-number priority) in
      omega arith

  -- a body of a notice is far shorter than a message can be
  pub notice_body-short : (told : Told) → FitsTold told → length (notice_body told) < 2 ^ 31
  notice_body-short told fits =
      let a = one-part packet_header_kind (Some (packet_head_content told.id told.protocol))
      (omega arith) in
      let b = one-more input_device_kind _ (Some (value_content input_device)) _ a (omega arith) in
      let d = one-more output_device_kind _ (Some (value_content output_device)) _ b (omega arith)
      in
      let e = one-more mark_kind _ (nonzero_content told.mark) _ d (fits-nonzero told.mark) in
      let f = one-more priority_kind _ (nonzero_content told.priority) _ e
      (fits-nonzero told.priority) in
      let address = fits-address told.source fits.source_fits in
      let g = one-more hardware_address_kind _ (option_map address_content told.source) _ f address
      in
      let stamp : List ℕ = stamp_content told.seconds told.micros in
      let h = one-more timestamp_kind _ (Some stamp) _ g (omega arith) in
      let i = one-more full_length_kind _ _ _ h (fits-number told.cut_from) in
      let payload = fits-payload told.payload fits.payload_fits in
      let j = one-more payload_kind _ (payload_content told.payload) _ i payload in
      omega arith
