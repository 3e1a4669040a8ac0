-- The numbers of IP headers, of the link headers before them and of the link types of captures,
-- each once. Places and lengths count bytes; places count from 0 at the start of the header or, for
-- link headers, of the frame. The Ethernet types of IPv4 and IPv6 and the lengths of an Ethernet
-- header are those of packet_entry.
use Rattle.std.specs.Prelude.{ℕ}

-- ---- both IP headers: the version is the upper half of this byte

abbrev pub version_at : ℕ
version_at = 0

-- ---- the IPv4 header, RFC 791, section 3.1

abbrev pub ipv4_version : ℕ
ipv4_version = 4

-- without options
abbrev pub ipv4_header_length : ℕ
ipv4_header_length = 20

-- 1 byte
abbrev pub ipv4_protocol_at : ℕ
ipv4_protocol_at = 9

abbrev pub ipv4_source_at : ℕ
ipv4_source_at = 12

abbrev pub ipv4_destination_at : ℕ
ipv4_destination_at = 16

-- of each of the two addresses
abbrev pub ipv4_address_length : ℕ
ipv4_address_length = 4

-- ---- the IPv6 header, RFC 8200, section 3

abbrev pub ipv6_version : ℕ
ipv6_version = 6

-- without extension headers
abbrev pub ipv6_header_length : ℕ
ipv6_header_length = 40

-- 1 byte
abbrev pub ipv6_next_header_at : ℕ
ipv6_next_header_at = 6

abbrev pub ipv6_source_at : ℕ
ipv6_source_at = 8

abbrev pub ipv6_destination_at : ℕ
ipv6_destination_at = 24

-- of each of the two addresses
abbrev pub ipv6_address_length : ℕ
ipv6_address_length = 16

-- ---- the Ethernet header, IEEE 802.3, section 3, and the VLAN tag, IEEE 802.1Q, section 9

-- of every Ethernet type
abbrev pub ethernet_type_length : ℕ
ethernet_type_length = 2

-- the type of a frame without a tag; where a tag stands, its own type
abbrev pub ethernet_type_at : ℕ
ethernet_type_at = 12

-- the type that says that a VLAN tag stands here
abbrev pub vlan_type : ℕ
vlan_type = 0x8100

-- the type of a frame with one tag
abbrev pub tagged_type_at : ℕ
tagged_type_at = 16

-- ---- link types of captures: the registry at www.tcpdump.org/linktypes.html

-- LINKTYPE_ETHERNET
abbrev pub link_ethernet : ℕ
link_ethernet = 1

-- LINKTYPE_RAW: a packet of IPv4 or IPv6 with no header before it
abbrev pub link_raw : ℕ
link_raw = 101

-- LINKTYPE_IPV4: a packet of IPv4
abbrev pub link_ipv4 : ℕ
link_ipv4 = 228

-- LINKTYPE_IPV6: a packet of IPv6
abbrev pub link_ipv6 : ℕ
link_ipv6 = 229
