-- Acknowledgements: uapi linux/netlink.h, `struct nlmsgerr`, and the kernel's `netlink_ack` and
-- `netlink_rcv_skb`. That the acknowledgement of a success has flags 0, and that each has the
-- request's own port, is this project's, and so is that its length counts no padding behind the
-- request that it quotes.
use Rattle.std.specs.Prelude.{ℕ, ◌-◌, ◌^◌, Bool, ◌&&◌, ◌==◌, if◌then◌else◌, List, [], ◌++◌, take}
use Rattle.std.specs.Prelude.{bit_and}
use Rattle.byteorder.specs.Endian.{little_bytes}
use Rattle.netlink_codec.specs.Numbers.{ack_flag, errno_length, error_kind, message_header_length}
use Rattle.netlink_codec.specs.Messages.{NetlinkMessage, message_text}

-- minus the errno, a signed number in two's complement, lowest byte first
abbrev pub negated_errno : ℕ → List ℕ
negated_errno errno = little_bytes errno_length (2 ^ 32 - errno)

-- what of the request is sent back: at success its header, otherwise all of its own bytes
abbrev pub quoted : NetlinkMessage → ℕ → List ℕ
quoted request errno =
    if errno == 0 then take message_header_length request.whole else request.whole

-- the bytes of the acknowledgement of a request
unfoldable pub acknowledgement : NetlinkMessage → ℕ → List ℕ
acknowledgement request errno =
    message_text error_kind 0 request.sequence request.port
    (negated_errno errno ++ quoted request errno)

-- success is not acknowledged unless the request asks for it
abbrev pub is_unanswered : NetlinkMessage → ℕ → Bool
is_unanswered request errno = errno == 0 && bit_and request.flags ack_flag == 0

-- what a request is answered with: its acknowledgement, or nothing
unfoldable pub answer : NetlinkMessage → ℕ → List ℕ
answer request errno = if is_unanswered request errno then [] else acknowledgement request errno
