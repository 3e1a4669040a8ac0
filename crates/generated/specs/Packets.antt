-- A packet of a word: an IPv4 header (RFC 791, section 3.1) without options or a checksum, whose
-- protocol, addresses and length the word's bits give, and a payload of zeros. Bit k of a word
-- counts 2^k.
use Rattle.std.specs.Prelude.{ℕ, ◌+◌, ◌*◌, ◌/◌, ◌%◌, ◌^◌, ◌==◌, List, [], ◌∷◌, ◌++◌, replicate}
use Rattle.std.specs.Prelude.{if◌then◌else◌}
use Rattle.std.specs.Int.{w16, to_be_bytes}
use Rattle.ip_fields.specs.declared.packet.IpFields.{IpFields}
use Rattle.ip_fields.specs.Numbers.{ipv4_header_length, ipv4_version}
use Rattle.hook_chain.specs.Numbers.{tcp, udp}
use Rattle.generated.specs.Numbers.{payload_lengths, time_to_live, version_and_header_length}

-- the bytes of the payload: bits 24 to 29
abbrev pub payload_length : ℕ → ℕ
payload_length w = w / 2 ^ 24 % payload_lengths

-- the bytes of the packet
abbrev pub packet_length : ℕ → ℕ
packet_length w = ipv4_header_length + payload_length w

-- UDP where bit 0 is 1, and else TCP
abbrev pub protocol : ℕ → ℕ
protocol w = if w % 2 == 1 then udp else tcp

-- 10.0.0.s, where s is bits 8 to 15
abbrev pub source : ℕ → List ℕ
source w = 10 ∷ 0 ∷ 0 ∷ w / 2 ^ 8 % 2 ^ 8 ∷ []

-- 10.0.1.d, where d is bits 16 to 23
abbrev pub destination : ℕ → List ℕ
destination w = 10 ∷ 0 ∷ 1 ∷ w / 2 ^ 16 % 2 ^ 8 ∷ []

-- the header, field by field:
--    0  1  version and header length
--    1  1  type of service
--    2  2  total length
--    4  2  identification
--    6  2  flags and fragment offset
--    8  1  time to live
--    9  1  protocol
--   10  2  checksum
--   12  4  source
--   16  4  destination
unfoldable pub header : ℕ → List ℕ
header w =
    version_and_header_length ∷ 0 ∷ []
    ++ to_be_bytes w16 (packet_length w)
    ++ 0 ∷ 0 ∷ []
    ++ 0 ∷ 0 ∷ []
    ++ time_to_live ∷ protocol w ∷ []
    ++ 0 ∷ 0 ∷ []
    ++ source w
    ++ destination w

unfoldable pub packet : ℕ → List ℕ
packet w = header w ++ replicate (payload_length w) 0

-- what the header says: its family, its protocol, and its addresses as numbers of 32 bits
abbrev pub fields : ℕ → IpFields
fields w = record {
  family = ipv4_version;
  protocol = protocol w;
  source = 10 * 2 ^ 24 + w / 2 ^ 8 % 2 ^ 8;
  destination = 10 * 2 ^ 24 + 2 ^ 8 + w / 2 ^ 16 % 2 ^ 8;
}
