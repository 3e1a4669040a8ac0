-- The text of a notice, part after part.
use Rattle.std.proofs.Common.{◌≡◌, ℕ, ◌+◌, ◌-◌, ◌≤◌, List, [], ◌∷◌, ◌++◌, length, take}
use Rattle.std.proofs.Common.{drop, refl, sym, ap, ap₂, ◌∙◌, arith, append-nil, append_assoc}
use Rattle.std.proofs.Common.{length-append, Some}
use Rattle.std.specs.Prelude.{slice_range, nat_eq, false}
use Rattle.std.proofs.Math.Dec.{eqb-suc-zero}
use Rattle.std.proofs.Math.Seq.{drop-append_seam, take-append_seam}
use Rattle.std.proofs.lemmas.List.Concat.{flat_map-append}
use Rattle.netlink_codec.specs.Messages.{message_text, header_text}
use Rattle.netlink_codec.specs.Numbers.{attribute_header_length, message_header_length}
use Rattle.netlink_codec.specs.Attributes.{attribute_text, attributes_text, attribute_header_text}
use Rattle.netlink_codec.specs.Attributes.{zero_padding}
use Rattle.nfqa_headers.specs.Numbers.{notice_number, payload_kind}
use Rattle.nfqa_headers.specs.Kinds.{queue_kind}
use Rattle.nfqa_headers.specs.Headers.{queue_header}
use Rattle.nfqa_headers.specs.AttributeWriting.{part}
use Rattle.nfqa_msgs.specs.NoticeWriting.{Told, family_of, front_parts, payload_part, notice_front}
use Rattle.nfqa_msgs.specs.NoticeWriting.{notice_body, notice_text, padded_payload}
use Rattle.nfqa_msgs.specs.NoticeWriting.{payload_padding}

abbrev pub payload_header : List ℕ → List ℕ
payload_header payload =
    attribute_header_text payload_kind (attribute_header_length + length payload)

-- the payload's attribute
pub payload_text : (payload : List ℕ) → nat_eq (length payload) 0 ≡ false →
    attributes_text (payload_part payload) ≡ payload_header payload ++ padded_payload payload
unfolding attribute_text
payload_text [] some = absurd cc
payload_text (x ∷ xs) some =
    append-nil (attribute_text (record { kind = payload_kind; content = x ∷ xs }))
    ∙ append_assoc (payload_header (x ∷ xs)) (x ∷ xs)
    (zero_padding (attribute_header_length + length (x ∷ xs)))

-- the body is its front and the payload's attribute
pub body_text : (told : Told) →
    notice_body told ≡ notice_front told ++ attributes_text (payload_part told.payload)
body_text told =
    let head = queue_header (family_of told.protocol) told.queue in
    ap (λ xs. head ++ xs)
    (flat_map-append attribute_text (front_parts told) (payload_part told.payload))
    ∙ sym (append_assoc head (attributes_text (front_parts told))
    (attributes_text (payload_part told.payload)))

-- where there is a payload, its header stands behind the front
pub body_with_payload : (told : Told) → nat_eq (length told.payload) 0 ≡ false →
    notice_body told
    ≡ (notice_front told ++ payload_header told.payload) ++ padded_payload told.payload
body_with_payload told some =
    body_text told
    ∙ ap (λ xs. notice_front told ++ xs) (payload_text told.payload some)
    ∙ sym (append_assoc (notice_front told) (payload_header told.payload)
    (padded_payload told.payload))

-- front, payload and padding are the body
pub in_pieces : (front parts payload padding body : List ℕ) → front ≡ parts →
    padding ≡ payload_padding payload → body ≡ parts ++ padded_payload payload →
    front ++ payload ++ padding ≡ body
in_pieces front parts payload padding body same zeros whole =
    append_assoc front payload padding
    ∙ ap₂ (λ (a b : List ℕ). a ++ (payload ++ b)) same zeros ∙ sym whole

-- what stands around a payload, and the payload, are its attribute
pub attribute_around : (old content before middle after : List ℕ) →
    before ≡ old ++ payload_header content → middle ≡ content →
    after ≡ zero_padding (attribute_header_length + length content) →
    before ++ middle ++ after ≡ old ++ attributes_text (part payload_kind (Some content))
unfolding attribute_text
attribute_around old content before middle after b m a =
    let h : List ℕ = payload_header content in
    let z : List ℕ = zero_padding (attribute_header_length + length content) in
    ap₂ (λ (x y : List ℕ). x ++ y) (ap₂ (λ (x y : List ℕ). x ++ y) b m) a
    ∙ append_assoc (old ++ h) content z
    ∙ append_assoc old h (content ++ z)
    ∙ ap (λ (xs : List ℕ). old ++ xs)
    (sym (append-nil (attribute_text (record { kind = payload_kind; content = content }))))

-- ---- where the payload stands

-- the text ends with the payload and its padding
record Ends (text payload : List ℕ) : Type 0 where
  front : List ℕ
  is : text ≡ front ++ padded_payload payload

attribute_ends : (payload : List ℕ) → Ends (attributes_text (payload_part payload)) payload
attribute_ends [] = record { front = []; is = refl }
attribute_ends (x ∷ xs) = record {
  front = payload_header (x ∷ xs);
  is = payload_text (x ∷ xs) (eqb-suc-zero (length xs));
}

-- what ends so still does behind something
ends_behind : (before text payload : List ℕ) → Ends text payload → Ends (before ++ text) payload
ends_behind before text payload ends = record {
  front = before ++ ends.front;
  is = ap (λ xs. before ++ xs) ends.is
      ∙ sym (append_assoc before ends.front (padded_payload payload));
}

notice_ends : (told : Told) → Ends (notice_text told) told.payload
unfolding notice_text message_text
notice_ends told =
    let header =
    header_text (queue_kind notice_number) 0 0 0
    (message_header_length + length (notice_body told)) in
    let body :
    Ends (notice_front told ++ attributes_text (payload_part told.payload)) told.payload =
    ends_behind (notice_front told) (attributes_text (payload_part told.payload)) told.payload
    (attribute_ends told.payload) in
    ends_behind header (notice_body told) told.payload
    (record { front = body.front; is = body_text told ∙ body.is })

cut_out : (text front payload padding : List ℕ) → text ≡ front ++ (payload ++ padding) →
    slice_range text (length text - length padding - length payload)
    (length text - length padding) ≡ payload
cut_out text front payload padding is =
    let size : length text ≡ length front + (length payload + length padding) =
    ap length is ∙ length-append front (payload ++ padding)
    ∙ ap (λ n. length front + n) (length-append payload padding) in
    let start : length text - length padding - length payload ≡ length front = omega arith in
    let many : length text - length padding - (length text - length padding - length payload)
    ≡ length payload = omega arith in
    ap₂ (λ a n. take n (drop a text)) start many
    ∙ ap (λ xs. take (length payload) (drop (length front) xs)) is
    ∙ ap (take (length payload)) (drop-append_seam front (payload ++ padding))
    ∙ take-append_seam payload padding

-- the payload is the part before the padding
pub payload_stands : (told : Told) (padding : ℕ) →
    padding ≡ length (zero_padding (attribute_header_length + length told.payload)) →
    slice_range (notice_text told) (length (notice_text told) - padding - length told.payload)
    (length (notice_text told) - padding) ≡ told.payload
payload_stands told padding is =
    let ends = notice_ends told in
    ap (λ n. slice_range (notice_text told) (length (notice_text told) - n - length told.payload)
    (length (notice_text told) - n)) is
    ∙ cut_out (notice_text told) ends.front told.payload
    (zero_padding (attribute_header_length + length told.payload)) ends.is

-- and there is room for both
pub payload_within : (told : Told) (padding : ℕ) →
    padding ≡ length (zero_padding (attribute_header_length + length told.payload)) →
    length told.payload + padding ≤ length (notice_text told)
payload_within told padding is =
    let ends = notice_ends told in
    let zeros = zero_padding (attribute_header_length + length told.payload) in
    let size : length (notice_text told)
    ≡ length ends.front + (length told.payload + length zeros) =
    ap length ends.is ∙ length-append ends.front (told.payload ++ zeros)
    ∙ ap (λ n. length ends.front + n) (length-append told.payload zeros) in omega arith
