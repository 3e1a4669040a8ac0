-- What an IP packet says of itself, by the fixed places of its header: RFC 791, section 3.1
-- (IPv4), and RFC 8200, section 3 (IPv6). A packet is the list of its bytes.
use Rattle.std.specs.Prelude.{◌≡◌, ℕ, ◌/◌, ◌<◌, ◌^◌, ◌⊎◌, ◌&&◌, ◌==◌, nat_le, List, length, drop}
use Rattle.std.specs.Prelude.{slice_index, Option, Some, None, if◌then◌else◌}
use Rattle.byteorder.specs.Endian.{big_number}
use Rattle.ip_fields.specs.declared.packet.IpFields.{IpFields}
use Rattle.ip_fields.specs.Numbers.{version_at, ipv4_version, ipv4_header_length, ipv4_protocol_at}
use Rattle.ip_fields.specs.Numbers.{ipv4_source_at, ipv4_destination_at, ipv4_address_length}
use Rattle.ip_fields.specs.Numbers.{ipv6_version, ipv6_header_length, ipv6_next_header_at}
use Rattle.ip_fields.specs.Numbers.{ipv6_source_at, ipv6_destination_at, ipv6_address_length}

-- the number in the `width` bytes from place `at`, in network byte order: the highest byte first
unfoldable pub network_number : ℕ → ℕ → List ℕ → ℕ
network_number width at bytes = big_number width (drop at bytes)

-- the version is the upper half of its byte
abbrev pub version_of : List ℕ → ℕ
version_of bytes = slice_index bytes version_at / 2 ^ 4

-- IPv4, field by field
abbrev pub ipv4_fields : List ℕ → IpFields
ipv4_fields bytes = record {
  family = ipv4_version;
  protocol = slice_index bytes ipv4_protocol_at;
  source = network_number ipv4_address_length ipv4_source_at bytes;
  destination = network_number ipv4_address_length ipv4_destination_at bytes;
}

-- IPv6, field by field. The protocol is the next header; extension headers aren't followed.
abbrev pub ipv6_fields : List ℕ → IpFields
ipv6_fields bytes = record {
  family = ipv6_version;
  protocol = slice_index bytes ipv6_next_header_at;
  source = network_number ipv6_address_length ipv6_source_at bytes;
  destination = network_number ipv6_address_length ipv6_destination_at bytes;
}

-- 20 bytes of version 4 and 40 of version 6 have fields, and nothing else has
unfoldable pub fields_of : List ℕ → Option IpFields
fields_of bytes =
    if nat_le ipv4_header_length (length bytes) && (version_of bytes == ipv4_version)
    then Some (ipv4_fields bytes)
    else if nat_le ipv6_header_length (length bytes) && (version_of bytes == ipv6_version)
    then Some (ipv6_fields bytes)
    else None

-- fields that a header can hold: family 4 with addresses of 32 bits, or family 6
abbrev pub IsAddressed : IpFields → Type 0
IsAddressed f =
    ((f.family ≡ ipv4_version) × (f.source < 2 ^ 32) × (f.destination < 2 ^ 32))
    ⊎ (f.family ≡ ipv6_version)
