-- What the attributes of a message say: uapi linux/netfilter/nfnetlink_queue.h, and the kernel's
-- `nfqa_cfg_policy`, `nfqa_verdict_policy` and `nfqa_verdict_batch_policy`.
use Rattle.std.specs.Prelude.{ℕ, Bool, ◌==◌, nat_lt, if◌then◌else◌, List, [], ◌∷◌, length}
use Rattle.std.specs.Prelude.{Option, Some, None, option_map, unwrap_or, slice_get}
use Rattle.std.specs.Option.{option_and_then}
use Rattle.packet_entry.specs.Numbers.{ipv4_type, ipv6_type}
use Rattle.netlink_codec.specs.Attributes.{Attribute}
use Rattle.netlink_codec.specs.Fields.{Field}
use Rattle.nfqa_headers.specs.declared.verdict_header.Head.{Head}
use Rattle.nfqa_headers.specs.Numbers.{config_number, command_kind, params_kind, maxlen_kind}
use Rattle.nfqa_headers.specs.Numbers.{mask_kind, flags_kind, verdict_header_kind, mark_kind}
use Rattle.nfqa_headers.specs.Numbers.{priority_kind}
use Rattle.nfqa_headers.specs.Headers.{value_in, bytes_in, value_field, address_field, head_in}
use Rattle.nfqa_headers.specs.Headers.{command_length, params_length, verdict_header_length}
use Rattle.nfqa_headers.specs.Headers.{packet_address_length, value_length}

-- how many bytes a known attribute of a config request needs, by its kind (`nfqa_cfg_policy`); an
-- unknown one needs none
abbrev pub config_least : ℕ → ℕ
config_least kind =
    if kind == command_kind then command_length
    else if kind == params_kind then params_length
    else if kind == maxlen_kind then value_length
    else if kind == mask_kind then value_length
    else if kind == flags_kind then value_length
    else 0

-- the same for a verdict and a batch (`nfqa_verdict_policy`, `nfqa_verdict_batch_policy`); a
-- payload may have no bytes
abbrev pub verdict_least : ℕ → ℕ
verdict_least kind =
    if kind == verdict_header_kind then verdict_header_length
    else if kind == mark_kind then value_length
    else if kind == priority_kind then value_length
    else 0

abbrev pub least_content : ℕ → ℕ → ℕ
least_content number kind =
    if number == config_number then config_least kind else verdict_least kind

-- the attribute has fewer bytes than its kind needs in a message of this number
abbrev pub is_short : ℕ → Attribute → Bool
is_short number a = nat_lt (length a.content) (least_content number a.kind)

-- the later of two contents, where there are two
abbrev pub later : Option (List ℕ) → Option (List ℕ) → Option (List ℕ)
later None first = first
later (Some second) first = Some second

-- the content of this kind: of a kind that repeats, the last one counts
abbrev pub last_content : ℕ → List Attribute → Option (List ℕ)
last_content kind [] = None
last_content kind (a ∷ row) =
    later (last_content kind row) (if a.kind == kind then Some a.content else None)

-- of contents that stand at the places of their kinds, the one of this kind
abbrev pub content_at : {A : Type 0} → List (Option A) → ℕ → Option A
content_at contents kind = option_and_then (λ content. content) (slice_get contents kind)

-- the number that an attribute of this kind says
abbrev pub last_value : ℕ → List Attribute → Option ℕ
last_value kind row = option_map (value_in value_field) (last_content kind row)

-- verdict and id that a verdict or a batch says
abbrev pub last_head : List Attribute → Option Head
last_head row = option_map head_in (last_content verdict_header_kind row)

-- ---- bridges for proofs: what is read of a notice, whose attributes may be short

-- the content, where it has at least n bytes
abbrev pub at_least : ℕ → Option (List ℕ) → Option (List ℕ)
at_least n None = None
at_least n (Some content) = if nat_lt (length content) n then None else Some content

-- the number in this field of a content that has at least n bytes; else 0
abbrev pub value_of : ℕ → Field → Option (List ℕ) → ℕ
value_of n f content = unwrap_or (option_map (value_in f) (at_least n content)) 0

-- one of the two protocols
abbrev pub nearest_protocol : ℕ → ℕ
nearest_protocol protocol = if protocol == ipv6_type then ipv6_type else ipv4_type

-- the sender's address; none where the content has too few bytes
abbrev pub source_of : Option (List ℕ) → Option (List ℕ)
source_of content = option_map (bytes_in address_field) (at_least packet_address_length content)
