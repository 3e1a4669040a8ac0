-- The numbers of generated inputs, each once. They are this project's own but for those of an IPv4
-- header. Lengths count bytes.
use Rattle.std.specs.Prelude.{ℕ}
use Rattle.packet_entry.specs.Numbers as shared

-- ---- captures

-- the most records
abbrev pub most_records : ℕ
most_records = shared.most_frames

-- how many lengths a packet's payload has: 0 and on
abbrev pub payload_lengths : ℕ
payload_lengths = 64

-- the bytes of the longest packet: an IPv4 header without options, and 63 bytes of payload
abbrev pub longest_generated : ℕ
longest_generated = 83

-- ---- packets, by the fields of an IPv4 header (RFC 791, section 3.1)

-- version 4, and a header of five words of 32 bits
abbrev pub version_and_header_length : ℕ
version_and_header_length = 0x45

-- the place of the total length, and its width
abbrev pub total_length_at : ℕ
total_length_at = 2

abbrev pub total_length_width : ℕ
total_length_width = 2

-- how many hops a packet has left
abbrev pub time_to_live : ℕ
time_to_live = 0x40

-- ---- scripts

-- the port of the first block; those of the others follow
abbrev pub first_port : ℕ
first_port = 101

-- the key of the flow hash
abbrev pub flow_key : ℕ
flow_key = 1

-- how many bytes of a packet a notice has at most
abbrev pub copy_range : ℕ
copy_range = 64
