-- The header of queue messages and those that attributes hold (uapi linux/netfilter/nfnetlink.h and
-- linux/netfilter/nfnetlink_queue.h), each as one table: a field a line, with its place and its
-- width in bytes. Numbers have their highest byte first. Below each table stand the size of the
-- whole header, where its last field ends, its text and, of a request's, what is read in it.
use Rattle.std.specs.Prelude.{ℕ, ◌+◌, List, [], ◌∷◌, ◌++◌, slice_index, take, drop, replicate}
use Rattle.byteorder.specs.Endian.{big_bytes, big_number}
use Rattle.netlink_codec.specs.Fields.{Field}
use Rattle.nfqa_headers.specs.declared.verdict_header.Head.{Head}
use Rattle.nfqa_headers.specs.declared.params.Params.{Params}
use Rattle.nfqa_headers.specs.Numbers.{forward_hook, hardware_address_length}

-- a field of a header, by its place and its width
abbrev pub field : ℕ → ℕ → Field
field place width = record { at = place; width = width }

-- where a field ends: after a header's last field, the bytes of the whole header
abbrev pub end_of : Field → ℕ
end_of f = f.at + f.width

-- the field's number, its only byte and its bytes in a header
abbrev pub value_in : Field → List ℕ → ℕ
value_in f header = big_number f.width (drop f.at header)

abbrev pub byte_in : Field → List ℕ → ℕ
byte_in f header = slice_index header f.at

abbrev pub bytes_in : Field → List ℕ → List ℕ
bytes_in f header = take f.width (drop f.at header)

-- the text of a field: a number, one byte, or zeros
abbrev pub value_text : Field → ℕ → List ℕ
value_text f value = big_bytes f.width value

abbrev pub byte_text : Field → ℕ → List ℕ
byte_text f byte = byte ∷ []

abbrev pub zeros_text : Field → List ℕ
zeros_text f = replicate f.width 0

-- ---- `struct nfgenmsg`, before the attributes

abbrev pub family_field : Field
family_field = field 0 1

abbrev pub version_field : Field
version_field = field 1 1

abbrev pub queue_field : Field
queue_field = field 2 2

abbrev pub queue_header_length : ℕ
queue_header_length = end_of queue_field

-- the version is 0
abbrev pub queue_header : ℕ → ℕ → List ℕ
queue_header family queue =
    byte_text family_field family ++ zeros_text version_field ++ value_text queue_field queue

abbrev pub queue_in : List ℕ → ℕ
queue_in body = value_in queue_field body

-- ---- `struct nfqnl_msg_config_cmd`

abbrev pub command_field : Field
command_field = field 0 1

abbrev pub command_pad_field : Field
command_pad_field = field 1 1

abbrev pub command_family_field : Field
command_family_field = field 2 2

abbrev pub command_length : ℕ
command_length = end_of command_family_field

-- the protocol family is 0, and isn't read
abbrev pub command_content : ℕ → List ℕ
command_content command =
    byte_text command_field command ++ zeros_text command_pad_field
    ++ zeros_text command_family_field

abbrev pub command_in : List ℕ → ℕ
command_in content = byte_in command_field content

-- ---- `struct nfqnl_msg_config_params`

abbrev pub range_field : Field
range_field = field 0 4

abbrev pub mode_field : Field
mode_field = field 4 1

abbrev pub params_length : ℕ
params_length = end_of mode_field

abbrev pub params_content : Params → List ℕ
params_content params = value_text range_field params.range ++ byte_text mode_field params.mode

abbrev pub params_in : List ℕ → Params
params_in content =
    record { range = value_in range_field content; mode = byte_in mode_field content }

-- ---- `struct nfqnl_msg_verdict_hdr`

abbrev pub verdict_field : Field
verdict_field = field 0 4

abbrev pub verdict_id_field : Field
verdict_id_field = field 4 4

abbrev pub verdict_header_length : ℕ
verdict_header_length = end_of verdict_id_field

abbrev pub head_content : Head → List ℕ
head_content head = value_text verdict_field head.verdict ++ value_text verdict_id_field head.id

abbrev pub head_in : List ℕ → Head
head_in content =
    record { verdict = value_in verdict_field content; id = value_in verdict_id_field content }

-- ---- `struct nfqnl_msg_packet_hdr`

abbrev pub packet_id_field : Field
packet_id_field = field 0 4

abbrev pub packet_protocol_field : Field
packet_protocol_field = field 4 2

abbrev pub packet_hook_field : Field
packet_hook_field = field 6 1

abbrev pub packet_header_length : ℕ
packet_header_length = end_of packet_hook_field

-- the hook is FORWARD
abbrev pub packet_head_content : ℕ → ℕ → List ℕ
packet_head_content id protocol =
    value_text packet_id_field id ++ value_text packet_protocol_field protocol
    ++ byte_text packet_hook_field forward_hook

-- ---- `struct nfqnl_msg_packet_hw`, whose address is filled up to 8 bytes

abbrev pub address_length_field : Field
address_length_field = field 0 2

abbrev pub address_pad_field : Field
address_pad_field = field 2 2

abbrev pub address_field : Field
address_field = field 4 6

abbrev pub address_filler_field : Field
address_filler_field = field 10 2

abbrev pub packet_address_length : ℕ
packet_address_length = end_of address_filler_field

abbrev pub address_content : List ℕ → List ℕ
address_content source =
    value_text address_length_field hardware_address_length ++ zeros_text address_pad_field
    ++ source
    ++ zeros_text address_filler_field

-- ---- `struct nfqnl_msg_packet_timestamp`

abbrev pub seconds_field : Field
seconds_field = field 0 8

abbrev pub micros_field : Field
micros_field = field 8 8

abbrev pub timestamp_length : ℕ
timestamp_length = end_of micros_field

abbrev pub stamp_content : ℕ → ℕ → List ℕ
stamp_content seconds micros = value_text seconds_field seconds ++ value_text micros_field micros

-- the low 4 of a number's 8 bytes
abbrev pub low_half : Field → Field
low_half f = field (f.at + 4) 4

-- ---- an attribute that is one number, such as a mark (`__be32`)

abbrev pub value_field : Field
value_field = field 0 4

abbrev pub value_length : ℕ
value_length = end_of value_field

abbrev pub value_content : ℕ → List ℕ
value_content value = value_text value_field value
