-- The numbers of netlink's formats, each once. Places, widths and lengths count bytes. The source
-- is the kernel's uapi header linux/netlink.h.
use Rattle.std.specs.Prelude.{ℕ, ◌-◌, ◌^◌}
use Rattle.netlink_codec.specs.Fields.{Field}

-- ---- the header of a message, `struct nlmsghdr`

-- `nlmsg_len`: the length of header and body
abbrev pub message_total : Field
message_total = record { at = 0; width = 4 }

-- `nlmsg_type`
abbrev pub message_kind : Field
message_kind = record { at = 4; width = 2 }

-- `nlmsg_flags`
abbrev pub message_flags : Field
message_flags = record { at = 6; width = 2 }

-- `nlmsg_seq`
abbrev pub message_sequence : Field
message_sequence = record { at = 8; width = 4 }

-- `nlmsg_pid`
abbrev pub message_port : Field
message_port = record { at = 12; width = 4 }

-- the whole header, `NLMSG_HDRLEN`
abbrev pub message_header_length : ℕ
message_header_length = 16

-- the flag of a message that asks for something, `NLM_F_REQUEST`
abbrev pub request_flag : ℕ
request_flag = 1

-- kinds below are control messages, `NLMSG_MIN_TYPE`
abbrev pub least_kind : ℕ
least_kind = 16

-- ---- the header of an attribute, `struct nlattr`

-- `nla_len`: the length of header and content, without padding
abbrev pub attribute_total : Field
attribute_total = record { at = 0; width = 2 }

-- `nla_type`
abbrev pub attribute_kind : Field
attribute_kind = record { at = 2; width = 2 }

-- the whole header, `NLA_HDRLEN`
abbrev pub attribute_header_length : ℕ
attribute_header_length = 4

-- kinds of attributes have 14 bits (`NLA_TYPE_MASK`): the two above them are the flags
-- `NLA_F_NESTED` and `NLA_F_NET_BYTEORDER`
abbrev pub kind_limit : ℕ
kind_limit = 2 ^ 14

-- the most bytes that a content can have: the length has 2 bytes and counts the header too
abbrev pub longest_content : ℕ
longest_content = 2 ^ 16 - 1 - attribute_header_length

-- ---- both

-- messages and attributes begin at multiples of this many bytes (`NLMSG_ALIGNTO`, `NLA_ALIGNTO`)
abbrev pub alignment : ℕ
alignment = 4

-- ---- acknowledgements, `struct nlmsgerr`

-- the kind of an acknowledgement, `NLMSG_ERROR`
abbrev pub error_kind : ℕ
error_kind = 2

-- the flag by which a request asks for an acknowledgement of success, `NLM_F_ACK`
abbrev pub ack_flag : ℕ
ack_flag = 4

-- the bytes of an errno, with which the body of an acknowledgement begins
abbrev pub errno_length : ℕ
errno_length = 4
