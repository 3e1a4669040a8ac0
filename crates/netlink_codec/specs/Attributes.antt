-- Netlink attributes in the body of a message: uapi linux/netlink.h, `struct nlattr`, `NLA_ALIGN`
-- and `NLA_TYPE_MASK`, and the kernel's `nla_ok` and `nla_next`.
use Rattle.std.specs.Prelude.{◌≡◌, ℕ, zero, suc, ◌+◌, ◌-◌, ◌%◌, ◌^◌, ◌<◌, ◌≤◌, Bool}
use Rattle.std.specs.Prelude.{if◌then◌else◌, List, [], ◌∷◌, ◌++◌, length, take, drop, replicate}
use Rattle.std.specs.List.{flat_map, AllByRecursion}
use Rattle.netlink_codec.specs.declared.attributes.Attr.{Attr}
use Rattle.netlink_codec.specs.Fields.{field_text, told}
use Rattle.netlink_codec.specs.Numbers.{attribute_header_length, attribute_kind, attribute_total}
use Rattle.netlink_codec.specs.Numbers.{kind_limit, longest_content}
use Rattle.netlink_codec.specs.Messages.{pad, is_whole, IsNotWhole}

-- an attribute: its kind and its content
pub record Attribute : Type 0 where
  pub kind : ℕ
  pub content : List ℕ

-- what a borrowed attribute shows
abbrev pub attribute_of : Attr → Attribute
attribute_of a = record { kind = a.kind; content = a.body.now }

-- ---- writing

-- the zero bytes after n bytes, up to a multiple of the alignment
abbrev pub zero_padding : ℕ → List ℕ
zero_padding n = replicate (pad n - n) 0

-- a header, field by field; `total` is the length of header and content
abbrev pub attribute_header_text : ℕ → ℕ → List ℕ
attribute_header_text kind total =
    field_text attribute_total total
    ++ field_text attribute_kind kind

-- the text of an attribute: the header, whose length counts itself and the content, the content,
-- and its padding
unfoldable pub attribute_text : Attribute → List ℕ
attribute_text a =
    attribute_header_text a.kind (attribute_header_length + length a.content) ++ a.content
    ++ zero_padding (attribute_header_length + length a.content)

-- the texts of a row of attributes, one after the other
abbrev pub attributes_text : List Attribute → List ℕ
attributes_text row = flat_map attribute_text row

-- what can be written: the kind has 14 bits, and the length fits its 2 bytes
pub record FitsAttribute (a : Attribute) : Type 0 where
  pub kind : a.kind < kind_limit
  pub content : length a.content ≤ longest_content

-- each attribute of the row can be written
abbrev pub AllFit : List Attribute → Type 0
AllFit row = AllByRecursion FitsAttribute row

-- the bytes begin with the attribute: they are a header that tells its length and, in the low 14
-- bits, its kind; then its content; then anything
pub record AttributeFront (bytes : List ℕ) (a : Attribute) : Type 0 where
  pub told_kind : ℕ
  pub fits_kind : told_kind < 2 ^ 16
  pub fits_length : attribute_header_length + length a.content < 2 ^ 16
  pub kind : told_kind % kind_limit ≡ a.kind
  pub behind : (rest : List ℕ) ×
      (bytes ≡ attribute_header_text told_kind (attribute_header_length + length a.content)
      ++ a.content ++ rest)

-- the length that the header at the start of the bytes tells
abbrev pub attribute_length : List ℕ → ℕ
attribute_length bytes = told attribute_total bytes

-- the bytes begin with no attribute: fewer than a header remain, or the length is below the
-- header's or above what remains
abbrev pub HasNoAttribute : List ℕ → Type 0
HasNoAttribute bytes = IsNotWhole attribute_header_length (attribute_length bytes) (length bytes)

-- the body holds this row of attributes: it begins with the first, and the bytes after that one and
-- its padding, which may be cut, hold the others; what follows the last begins with no attribute
abbrev pub Holds : List ℕ → List Attribute → Type 0
Holds body [] = HasNoAttribute body
Holds body (a ∷ row) =
    AttributeFront body a
    × Holds (drop (pad (attribute_header_length + length a.content)) body) row

-- ---- reading

-- there is a whole header, and its length is at least the header's and at most what remains
abbrev pub has_attribute : List ℕ → Bool
has_attribute bytes = is_whole attribute_header_length (attribute_length bytes) (length bytes)

-- the attribute that the bytes begin with: the low 14 bits of its kind, and the bytes after its
-- header up to its length
abbrev pub first_attribute : List ℕ → Attribute
first_attribute bytes = record {
  kind = told attribute_kind bytes % kind_limit;
  content = drop attribute_header_length (take (attribute_length bytes) bytes);
}

-- the bytes after the first attribute and its padding, which may be cut
abbrev pub after_attribute : List ℕ → List ℕ
after_attribute bytes = drop (pad (attribute_length bytes)) bytes

-- at most n attributes from the start of the bytes
unfoldable pub attributes_up_to : ℕ → List ℕ → List Attribute
attributes_up_to zero bytes = []
attributes_up_to (suc n) bytes =
    if has_attribute bytes
    then first_attribute bytes ∷ attributes_up_to n (after_attribute bytes)
    else []

-- the attributes of a body, in order. Each has bytes of its own, so there are no more of them than
-- bytes. What remains where no attribute begins is passed over.
unfoldable pub attributes : List ℕ → List Attribute
attributes body = attributes_up_to (length body) body
