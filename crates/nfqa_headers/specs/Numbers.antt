-- The numbers of the headers and attributes of nfnetlink_queue messages, each once: uapi
-- linux/netfilter/nfnetlink.h, linux/netfilter/nfnetlink_queue.h, linux/netfilter.h, and the
-- kernel's include/linux/socket.h. Kinds and numbers have no unit; lengths are in bytes. The sizes
-- of headers follow from their fields, in Headers.antt.
use Rattle.std.specs.Prelude.{ℕ}

-- ---- messages

-- the subsystem of queues, `NFNL_SUBSYS_QUEUE`
abbrev pub queue_subsystem : ℕ
queue_subsystem = 3

-- how many numbers of messages a subsystem has: `NFNL_MSG_TYPE` is the low byte of a message's kind
abbrev pub subsystem_numbers : ℕ
subsystem_numbers = 256

-- the numbers of messages in the subsystem, `enum nfqnl_msg_types`

-- `NFQNL_MSG_PACKET`
abbrev pub notice_number : ℕ
notice_number = 0

-- `NFQNL_MSG_VERDICT`
abbrev pub verdict_number : ℕ
verdict_number = 1

-- `NFQNL_MSG_CONFIG`
abbrev pub config_number : ℕ
config_number = 2

-- `NFQNL_MSG_VERDICT_BATCH`
abbrev pub batch_number : ℕ
batch_number = 3

-- ---- config requests

-- the kinds of their attributes, `enum nfqnl_attr_config`

-- `NFQA_CFG_CMD`
abbrev pub command_kind : ℕ
command_kind = 1

-- `NFQA_CFG_PARAMS`
abbrev pub params_kind : ℕ
params_kind = 2

-- `NFQA_CFG_QUEUE_MAXLEN`
abbrev pub maxlen_kind : ℕ
maxlen_kind = 3

-- `NFQA_CFG_MASK`
abbrev pub mask_kind : ℕ
mask_kind = 4

-- `NFQA_CFG_FLAGS`
abbrev pub flags_kind : ℕ
flags_kind = 5

-- ---- verdicts and notices

-- the kinds of their attributes, `enum nfqnl_attr_type`

-- `NFQA_PACKET_HDR`
abbrev pub packet_header_kind : ℕ
packet_header_kind = 1

-- `NFQA_VERDICT_HDR`
abbrev pub verdict_header_kind : ℕ
verdict_header_kind = 2

-- `NFQA_MARK`
abbrev pub mark_kind : ℕ
mark_kind = 3

-- `NFQA_TIMESTAMP`
abbrev pub timestamp_kind : ℕ
timestamp_kind = 4

-- `NFQA_IFINDEX_INDEV`
abbrev pub input_device_kind : ℕ
input_device_kind = 5

-- `NFQA_IFINDEX_OUTDEV`
abbrev pub output_device_kind : ℕ
output_device_kind = 6

-- `NFQA_HWADDR`
abbrev pub hardware_address_kind : ℕ
hardware_address_kind = 9

-- `NFQA_PAYLOAD`
abbrev pub payload_kind : ℕ
payload_kind = 10

-- `NFQA_CAP_LEN`
abbrev pub full_length_kind : ℕ
full_length_kind = 13

-- `NFQA_PRIORITY`
abbrev pub priority_kind : ℕ
priority_kind = 21

-- the hook that queues, `NF_INET_FORWARD`
abbrev pub forward_hook : ℕ
forward_hook = 2

-- the address families of a request, of IPv4 and of IPv6: `AF_UNSPEC`, `AF_INET`, `AF_INET6`
abbrev pub any_family : ℕ
any_family = 0

abbrev pub ipv4_family : ℕ
ipv4_family = 2

abbrev pub ipv6_family : ℕ
ipv6_family = 10

-- the bytes of a hardware address
abbrev pub hardware_address_length : ℕ
hardware_address_length = 6

-- ---- parts

-- the most bytes of a notice before the packet's own: the header (4), one attribute each of packet
-- header (12), two devices (16), mark (8), priority (8), address (16), time (20) and full length
-- (8), and the header of the packet's attribute (4)
abbrev pub parts_room : ℕ
parts_room = 96
