-- The facts about single fields of a packet.
use Rattle.std.specs.Prelude.{ℕ, ◌||◌, ◌==◌, IsTrue}
use Rattle.packet_entry.specs.Numbers.{ipv4_type, ipv6_type, ethernet_header_length}
use Rattle.packet_entry.specs.Numbers.{tagged_header_length}

-- the Ethernet type of IPv4 or of IPv6
abbrev pub IsProtocol : ℕ → Type 0
IsProtocol protocol = IsTrue ((protocol == ipv4_type) || (protocol == ipv6_type))

-- no link header, an Ethernet header, or one with a VLAN tag
abbrev pub IsLinkLength : ℕ → Type 0
IsLinkLength n =
    IsTrue ((n == 0) || (n == ethernet_header_length) || (n == tagged_header_length))
