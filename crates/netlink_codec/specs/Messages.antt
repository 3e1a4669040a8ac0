-- Netlink messages in a list of bytes: uapi linux/netlink.h, `struct nlmsghdr`, `NLMSG_ALIGN`,
-- `NLMSG_OK` and `NLMSG_NEXT`.
use Rattle.std.specs.Prelude.{◌≡◌, ℕ, ◌+◌, ◌-◌, ◌*◌, ◌/◌, ◌^◌, ◌<◌, ◌⊎◌, min, Bool, ◌&&◌, nat_le}
use Rattle.std.specs.Prelude.{if◌then◌else◌, List, ◌++◌, length, slice_index, take, drop, Option}
use Rattle.std.specs.Prelude.{Some, None}
use Rattle.netlink_codec.specs.declared.messages.Message.{Message}
use Rattle.netlink_codec.specs.Fields.{field_text, told}
use Rattle.netlink_codec.specs.Numbers.{alignment, message_flags, message_header_length}
use Rattle.netlink_codec.specs.Numbers.{message_kind, message_total, message_port, message_sequence}

-- a message by its parts: the fields of its header, the bytes after the header, and all of its own
-- bytes, header and body, without the padding that may follow
pub record NetlinkMessage : Type 0 where
  pub kind : ℕ
  pub flags : ℕ
  pub sequence : ℕ
  pub port : ℕ
  pub body : List ℕ
  pub whole : List ℕ

-- what a borrowed message shows
abbrev pub message_of : Message → NetlinkMessage
message_of m = record {
  kind = m.kind;
  flags = m.flags;
  sequence = m.sequence;
  port = m.port;
  body = m.body.now;
  whole = m.whole.now;
}

-- a message and the bytes used, as `next_message` hands them out
abbrev pub framed_of : Message × ℕ → NetlinkMessage × ℕ
framed_of (m, used) = (message_of m, used)

-- each number is a byte
abbrev pub AreBytes : List ℕ → Type 0
AreBytes bytes = (i : ℕ) → slice_index bytes i < 256

-- n rounded up to a multiple of the alignment, `NLMSG_ALIGN` and `NLA_ALIGN`
abbrev pub pad : ℕ → ℕ
pad n = (n + (alignment - 1)) / alignment * alignment

-- what begins with a header stands whole: there is a whole header, and the total length that it
-- tells is at least the header's and at most the bytes that remain (`NLMSG_OK`, `nla_ok`)
abbrev pub is_whole : ℕ → ℕ → ℕ → Bool
is_whole header total remaining =
    nat_le header remaining && (nat_le header total && nat_le total remaining)

-- the three reasons why it doesn't
abbrev pub IsNotWhole : ℕ → ℕ → ℕ → Type 0
IsNotWhole header total remaining =
    (remaining < header) ⊎ ((total < header) ⊎ (remaining < total))

-- ---- writing

-- a header, field by field; `total` is the length of header and body
abbrev pub header_text : ℕ → ℕ → ℕ → ℕ → ℕ → List ℕ
header_text kind flags sequence port total =
    field_text message_total total
    ++ field_text message_kind kind
    ++ field_text message_flags flags
    ++ field_text message_sequence sequence
    ++ field_text message_port port

-- the text of a message: the header, whose length counts itself and the body, and the body
unfoldable pub message_text : ℕ → ℕ → ℕ → ℕ → List ℕ → List ℕ
message_text kind flags sequence port body =
    header_text kind flags sequence port (message_header_length + length body) ++ body

-- the message that these parts make
abbrev pub message_with : ℕ → ℕ → ℕ → ℕ → List ℕ → NetlinkMessage
message_with kind flags sequence port body =
    record {
      kind = kind;
      flags = flags;
      sequence = sequence;
      port = port;
      body = body;
      whole = message_text kind flags sequence port body;
    }

-- each field of the message's header fits its bytes
pub record FitsHeader (message : NetlinkMessage) : Type 0 where
  pub kind : message.kind < 2 ^ 16
  pub flags : message.flags < 2 ^ 16
  pub sequence : message.sequence < 2 ^ 32
  pub port : message.port < 2 ^ 32
  pub length : message_header_length + length message.body < 2 ^ 32

-- the bytes begin with the message: they are its text and then anything. It uses its length rounded
-- up, or all of the bytes where they end before that.
pub record Front (bytes : List ℕ) (message : NetlinkMessage) (used : ℕ) : Type 0 where
  pub fits : FitsHeader message
  pub text : message.whole ≡
      message_text message.kind message.flags message.sequence message.port message.body
  pub behind : (rest : List ℕ) × (bytes ≡ message.whole ++ rest)
  pub uses : used ≡ min (pad (length message.whole)) (length bytes)

-- ---- reading

-- the length that the header at the start of the bytes tells
abbrev pub told_length : List ℕ → ℕ
told_length bytes = told message_total bytes

-- the bytes begin with no message: there is no whole header, the length is below the header's, or
-- there are fewer bytes than the length says
abbrev pub HasNoMessage : List ℕ → Type 0
HasNoMessage bytes = IsNotWhole message_header_length (told_length bytes) (length bytes)

-- there is a whole header, and its length is at least the header's and at most the bytes there
abbrev pub has_message : List ℕ → Bool
has_message bytes = is_whole message_header_length (told_length bytes) (length bytes)

-- the parts that the header at the start of the bytes tells
abbrev pub told_message : List ℕ → NetlinkMessage
told_message bytes = record {
  kind = told message_kind bytes;
  flags = told message_flags bytes;
  sequence = told message_sequence bytes;
  port = told message_port bytes;
  body = drop message_header_length (take (told_length bytes) bytes);
  whole = take (told_length bytes) bytes;
}

-- the message that the bytes begin with, and how many of them it uses
unfoldable pub first_message : List ℕ → Option (NetlinkMessage × ℕ)
first_message bytes =
    if has_message bytes
    then Some (told_message bytes, min (pad (told_length bytes)) (length bytes))
    else None
