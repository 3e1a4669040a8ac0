-- The numbers of rules files and of the flow hash, each once.
use Rattle.std.specs.Prelude.{ℕ}

-- the most tables of a rules file, of this reader
abbrev pub most_tables : ℕ
most_tables = 16

-- the most rules of a table, of this reader
abbrev pub most_rules : ℕ
most_rules = 1000

-- the most bytes of a name: of a table's it is XT_TABLE_MAXNAMELEN of the kernel's x_tables.h, 32,
-- less the zero byte at the end; for a chain's it is this project's own limit
abbrev pub longest_name : ℕ
longest_name = 31

-- the most queues of `--queue-balance`: their number has 16 bits (queues_total of xt_NFQUEUE.h)
abbrev pub most_queues : ℕ
most_queues = 65535

-- the most feeders; it is this project's own
abbrev pub most_feeders : ℕ
most_feeders = 16

-- the protocols that a rule can name: IANA's Assigned Internet Protocol Numbers
abbrev pub icmp : ℕ
icmp = 1

abbrev pub tcp : ℕ
tcp = 6

abbrev pub udp : ℕ
udp = 17

abbrev pub ipv6_icmp : ℕ
ipv6_icmp = 58

-- the mask of a mark test that names none: all 32 bits (iptables-extensions(8), mark)
abbrev pub all_bits : ℕ
all_bits = 0xffffffff

-- JHASH_INITVAL of the kernel's jhash.h
abbrev pub hash_start : ℕ
hash_start = 0xdeadbeef

-- the bytes that are hashed: three words of 4 bytes (jhash_3words of jhash.h)
abbrev pub hashed_bytes : ℕ
hashed_bytes = 12
