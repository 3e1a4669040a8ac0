-- Where the IP packet starts in a captured frame, and its Ethernet type. The link types are those
-- of the capture file format (tcpdump's list of link-layer header types); Ethernet II is IEEE
-- 802.3, section 3, and the VLAN tag is IEEE 802.1Q, section 9.
use Rattle.std.specs.Prelude.{IsTrue, ℕ, ◌≤◌, ◌&&◌, ◌||◌, ◌==◌, nat_le, List, length, Option, Some}
use Rattle.std.specs.Prelude.{None, if◌then◌else◌, Bool}
use Rattle.packet_entry.specs.Numbers.{ipv4_type, ipv6_type, ethernet_header_length}
use Rattle.packet_entry.specs.Numbers.{tagged_header_length}
use Rattle.ip_fields.specs.declared.frame.LinkCut.{LinkCut}
use Rattle.ip_fields.specs.Numbers.{ethernet_type_at, ethernet_type_length, ipv4_version}
use Rattle.ip_fields.specs.Numbers.{ipv6_version, link_ethernet, link_ipv4, link_ipv6, link_raw}
use Rattle.ip_fields.specs.Numbers.{tagged_type_at, vlan_type}
use Rattle.ip_fields.specs.Packet.{network_number, version_of}

-- the Ethernet types of IPv4 and IPv6
abbrev pub is_ip_type : ℕ → Bool
is_ip_type kind = (kind == ipv4_type) || (kind == ipv6_type)

-- a packet that starts after a link header of this length, with this Ethernet type
abbrev pub cut : ℕ → ℕ → Option LinkCut
cut length protocol = Some (record { length = length; protocol = protocol })

-- the type in an Ethernet header, and the type after a VLAN tag
abbrev pub ethernet_type : List ℕ → ℕ
ethernet_type frame = network_number ethernet_type_length ethernet_type_at frame

abbrev pub tagged_type : List ℕ → ℕ
tagged_type frame = network_number ethernet_type_length tagged_type_at frame

-- Ethernet: two addresses and then the type. One VLAN tag may stand before the type.
abbrev pub ethernet_cut : List ℕ → Option LinkCut
ethernet_cut frame =
    if nat_le ethernet_header_length (length frame) && is_ip_type (ethernet_type frame)
    then cut ethernet_header_length (ethernet_type frame)
    else if nat_le tagged_header_length (length frame) && (ethernet_type frame == vlan_type)
    && is_ip_type (tagged_type frame)
    then cut tagged_header_length (tagged_type frame)
    else None

-- raw IP: the packet's version tells its type; an empty frame has none
abbrev pub raw_cut : List ℕ → Option LinkCut
raw_cut frame =
    if length frame == 0 then None
    else if version_of frame == ipv4_version then cut 0 ipv4_type
    else if version_of frame == ipv6_version then cut 0 ipv6_type
    else None

-- by the link type; under any other link type no frame is IP
unfoldable pub cut_of : ℕ → List ℕ → Option LinkCut
cut_of link frame =
    if link == link_ethernet then ethernet_cut frame
    else if link == link_raw then raw_cut frame
    else if link == link_ipv4 then cut 0 ipv4_type
    else if link == link_ipv6 then cut 0 ipv6_type
    else None

-- a link header is empty or an Ethernet header without or with a tag, which the frame has, and the
-- type is one of IP's two
pub record IsIpStart (frame : List ℕ) (c : LinkCut) : Type 0 where
  pub header : IsTrue
      ((c.length == 0)
      || (c.length == ethernet_header_length)
      || (c.length == tagged_header_length))
  pub within : c.length ≤ length frame
  pub protocol : IsTrue (is_ip_type c.protocol)
