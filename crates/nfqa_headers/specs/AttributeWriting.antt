-- Attributes as they are written.
use Rattle.std.specs.Prelude.{ℕ, ◌+◌, List, [], ◌∷◌, Option, Some, None, option_map}
use Rattle.netlink_codec.specs.Attributes.{Attribute}
use Rattle.netlink_codec.specs.Messages.{pad}
use Rattle.netlink_codec.specs.Numbers.{attribute_header_length}
use Rattle.nfqa_headers.specs.declared.verdict_header.Head.{Head}
use Rattle.nfqa_headers.specs.Numbers.{verdict_header_kind}
use Rattle.nfqa_headers.specs.Headers.{head_content, value_content}

-- an attribute of this kind, where there is a content
abbrev pub part : ℕ → Option (List ℕ) → List Attribute
part kind None = []
part kind (Some content) = record { kind = kind; content = content } ∷ []

-- the bytes of an attribute whose content has so many
abbrev pub part_length : ℕ → ℕ
part_length content = pad (attribute_header_length + content)

-- an attribute of this kind that is one number, where there is one
abbrev pub value_part : ℕ → Option ℕ → List Attribute
value_part kind value = part kind (option_map value_content value)

-- verdict and id, where they are there
abbrev pub head_part : Option Head → List Attribute
head_part head = part verdict_header_kind (option_map head_content head)
