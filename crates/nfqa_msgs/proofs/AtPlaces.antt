-- Texts that are read attribute after attribute: what was read, and what is left behind it.
use Rattle.std.proofs.Common.{◌≡◌, ℕ, ◌+◌, ◌≤◌, List, [], ◌∷◌, ◌++◌, length, Option, Some, None}
use Rattle.std.proofs.Common.{refl, sym, ap, ap₂}
use Rattle.std.proofs.Common.{◌∙◌, append-nil, append_assoc, arith}
use Rattle.std.specs.Prelude.{IfSome, MatchOption, nat_eq, false}
use Rattle.std.proofs.Math.Dec.{eqb-suc-zero}
use Rattle.std.proofs.lemmas.List.Concat.{flat_map-append}
use Rattle.netlink_codec.specs.Attributes.{Attribute, attribute_header_text, attribute_text}
use Rattle.netlink_codec.specs.Attributes.{attributes_text, zero_padding}
use Rattle.netlink_codec.specs.Messages.{NetlinkMessage, message_with}
use Rattle.netlink_codec.specs.Numbers.{attribute_header_length}
use Rattle.nfqa_headers.specs.AttributeWriting.{part}
use Rattle.nfqa_headers.specs.Kinds.{queue_kind}
use Rattle.nfqa_headers.specs.Numbers.{payload_kind}
use Rattle.nfqa_msgs.specs.declared.request.Request.{Request}
use Rattle.nfqa_msgs.specs.NoticeWriting.{padded_payload, payload_part}
use Rattle.nfqa_msgs.specs.RequestReading.{decoded}
use Rattle.nfqa_msgs.specs.RequestWriting.{flags_for, number_for, request_body, spelled}
use Rattle.nfqa_msgs.proofs.NoticeSpelling.{payload_text}

-- the bytes begin with an attribute: its header, its content and its padding, one behind the other
pub part_in_front : (kind : ℕ) (content bytes header zeros x y rest : List ℕ) →
    header ≡ attribute_header_text kind (attribute_header_length + length content) →
    zeros ≡ zero_padding (attribute_header_length + length content) → bytes ≡ header ++ x →
    x ≡ content ++ y → y ≡ zeros ++ rest →
    bytes ≡ attributes_text (part kind (Some content)) ++ rest
unfolding attribute_text
part_in_front kind content bytes header zeros x y rest heads pads one two three =
    let h : List ℕ = attribute_header_text kind (attribute_header_length + length content) in
    let z : List ℕ = zero_padding (attribute_header_length + length content) in
    one ∙ ap₂ (λ (a b : List ℕ). a ++ b) heads two
    ∙ sym (append_assoc h content y)
    ∙ ap (λ (xs : List ℕ). h ++ content ++ xs) (three ∙ ap (λ (xs : List ℕ). xs ++ rest) pads)
    ∙ sym (append_assoc (h ++ content) z rest)
    ∙ ap (λ (xs : List ℕ). xs ++ rest)
    (sym (append-nil (attribute_text (record { kind = kind; content = content }))))

-- ---- what is found

module _ {A : Type 0} (R : A → Type 0) where
  pub if_found : (Q : A → Type 0) (o : Option A) → IfSome o Q → ((x : A) → Q x → R x) →
      IfSome o R
  if_found Q None q f = tt
  if_found Q (Some x) q f = f x q

  pub if_both : (Q S : A → Type 0) (o : Option A) → IfSome o Q → IfSome o S →
      ((x : A) → Q x → S x → R x) → IfSome o R
  if_both Q S None q s f = tt
  if_both Q S (Some x) q s f = f x q s

  pub if_behind : (P : Type 0) (Q : A → Type 0) (o : Option A) → MatchOption o P Q →
      ((x : A) → Q x → R x) → IfSome o R
  if_behind P Q None q f = tt
  if_behind P Q (Some x) q f = f x q

-- ---- rows

-- a row of attributes begins behind a head
pub row_begins : (head : List ℕ) (a : List Attribute) (body x rest : List ℕ) →
    body ≡ head ++ x → x ≡ attributes_text a ++ rest →
    body ≡ head ++ attributes_text a ++ rest
row_begins head a body x rest before here =
    before ∙ ap (λ (xs : List ℕ). head ++ xs) here
    ∙ sym (append_assoc head (attributes_text a) rest)

longer : (head : List ℕ) (a b : List Attribute) →
    head ++ attributes_text a ++ attributes_text b ≡ head ++ attributes_text (a ++ b)
longer head a b =
    append_assoc head (attributes_text a) (attributes_text b)
    ∙ ap (λ (xs : List ℕ). head ++ xs) (sym (flat_map-append attribute_text a b))

-- it goes on with one part more
pub row_on : (head : List ℕ) (a b : List Attribute) (body x rest : List ℕ) →
    body ≡ head ++ attributes_text a ++ x → x ≡ attributes_text b ++ rest →
    body ≡ head ++ attributes_text (a ++ b) ++ rest
row_on head a b body x rest before here =
    before ∙ ap (λ (xs : List ℕ). head ++ attributes_text a ++ xs) here
    ∙ sym (append_assoc (head ++ attributes_text a) (attributes_text b) rest)
    ∙ ap (λ (xs : List ℕ). xs ++ rest) (longer head a b)

-- or ends with it
pub row_ends : (head : List ℕ) (a b : List Attribute) (body x : List ℕ) →
    body ≡ head ++ attributes_text a ++ x → x ≡ attributes_text b →
    body ≡ head ++ attributes_text (a ++ b)
row_ends head a b body x before here =
    before ∙ ap (λ (xs : List ℕ). head ++ attributes_text a ++ xs) here ∙ longer head a b

-- ---- payloads

some_bytes : (xs : List ℕ) → 1 ≤ length xs → nat_eq (length xs) 0 ≡ false
some_bytes [] some = absurd (omega (arith, some))
some_bytes (x ∷ xs) some = eqb-suc-zero (length xs)

-- a header that tells the payload's length, the payload and its padding are its attribute
pub payload_in_front : (payload bytes header x : List ℕ) (count : ℕ) → 1 ≤ count →
    length payload ≡ count →
    header ≡ attribute_header_text payload_kind (attribute_header_length + count) →
    bytes ≡ header ++ x → x ≡ padded_payload payload →
    bytes ≡ attributes_text (payload_part payload)
payload_in_front payload bytes header x count some many heads one two =
    one
    ∙ ap₂ (λ (a b : List ℕ). a ++ b) (heads
    ∙ ap (λ (n : ℕ). attribute_header_text payload_kind (attribute_header_length + n)) (sym many))
    two
    ∙ sym (payload_text payload (some_bytes payload (omega (arith, some, many))))

-- ---- a request that is decoded

by_parts : (m : NetlinkMessage) → decoded m ≡ decoded (message_with m.kind m.flags 0 0 m.body)
unfolding decoded
by_parts m = refl

-- what a message is decoded to is a matter of its kind, its flags and its body
pub decoded_as_spelled : (m : NetlinkMessage) (request : Request) →
    m.kind ≡ queue_kind (number_for request) → m.flags ≡ flags_for request →
    m.body ≡ request_body request → decoded m ≡ decoded (spelled 0 0 request)
decoded_as_spelled m request kind flags body =
    by_parts m ∙ (λ at. decoded (message_with (kind at) (flags at) 0 0 (body at)))
