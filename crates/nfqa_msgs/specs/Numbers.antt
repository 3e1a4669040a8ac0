-- The numbers that the fields of nfnetlink_queue messages hold, each once: uapi
-- linux/netfilter/nfnetlink_queue.h, asm-generic/errno-base.h and errno.h. Commands, modes, flags
-- and places have no unit; lengths are in bytes. The kinds of messages and attributes, and the
-- numbers of their headers, are those of nfqa_headers.
use Rattle.std.specs.Prelude.{ℕ}
use Rattle.packet_entry.specs.Numbers.{longest_payload}

-- ---- config requests

-- the commands, `enum nfqnl_msg_config_cmds`

-- `NFQNL_CFG_CMD_BIND`
abbrev pub command_bind : ℕ
command_bind = 1

-- `NFQNL_CFG_CMD_UNBIND`
abbrev pub command_unbind : ℕ
command_unbind = 2

-- `NFQNL_CFG_CMD_PF_BIND`
abbrev pub command_pf_bind : ℕ
command_pf_bind = 3

-- `NFQNL_CFG_CMD_PF_UNBIND`
abbrev pub command_pf_unbind : ℕ
command_pf_unbind = 4

-- the copy modes, `enum nfqnl_config_mode`

-- `NFQNL_COPY_NONE`
abbrev pub copy_none : ℕ
copy_none = 0

-- `NFQNL_COPY_META`
abbrev pub copy_meta : ℕ
copy_meta = 1

-- `NFQNL_COPY_PACKET`
abbrev pub copy_packet : ℕ
copy_packet = 2

-- the most bytes of a packet that a notice has: what one attribute holds, as in a verdict
-- (`NFQNL_MAX_COPY_RANGE` in nfnetlink_queue.c)
abbrev pub longest_range : ℕ
longest_range = longest_payload

-- the bits of a queue's flags

-- `NFQA_CFG_F_FAIL_OPEN`
abbrev pub flag_fail_open : ℕ
flag_fail_open = 1

-- `NFQA_CFG_F_CONNTRACK`
abbrev pub flag_conntrack : ℕ
flag_conntrack = 2

-- `NFQA_CFG_F_GSO`
abbrev pub flag_gso : ℕ
flag_gso = 4

-- `NFQA_CFG_F_UID_GID`
abbrev pub flag_uid_gid : ℕ
flag_uid_gid = 8

-- `NFQA_CFG_F_SECCTX`
abbrev pub flag_secctx : ℕ
flag_secctx = 16

-- ---- notices

-- the indexes of the two devices by which every packet comes in and goes out (this project's)
abbrev pub input_device : ℕ
input_device = 1

abbrev pub output_device : ℕ
output_device = 2

-- where the source's hardware address stands in an Ethernet header (IEEE 802.3)
abbrev pub source_address_at : ℕ
source_address_at = 6

-- ---- errnos

-- `EPERM`
abbrev pub eperm : ℕ
eperm = 1

-- `ENOENT`
abbrev pub enoent : ℕ
enoent = 2

-- `EBUSY`
abbrev pub ebusy : ℕ
ebusy = 16

-- `ENODEV`
abbrev pub enodev : ℕ
enodev = 19

-- `EINVAL`
abbrev pub einval : ℕ
einval = 22

-- `ERANGE`
abbrev pub erange : ℕ
erange = 34

-- `EOPNOTSUPP`
abbrev pub eopnotsupp : ℕ
eopnotsupp = 95
