-- The numbers of packets, and the limits of a run, which several crates share: each once.
use Rattle.std.specs.Prelude.{ℕ}

-- the most bytes of a packet, and of a frame of a capture: libpcap's own limit on a record
-- (MAXIMUM_SNAPLEN in pcap-int.h)
abbrev pub longest_packet : ℕ
longest_packet = 262144

-- the most bytes that a verdict puts in a packet's place: one netlink attribute of 65,535 bytes
-- less its header of 4
abbrev pub longest_payload : ℕ
longest_payload = 65531

-- how many arrivals a packet can have; at the last one it is destroyed
abbrev pub last_visit : ℕ
last_visit = 33

-- the Ethernet types of IPv4 and of IPv6 (IEEE 802 numbers)
abbrev pub ipv4_type : ℕ
ipv4_type = 0x0800

abbrev pub ipv6_type : ℕ
ipv6_type = 0x86dd

-- the bytes of an Ethernet header, without and with one VLAN tag (IEEE 802.3, 802.1Q)
abbrev pub ethernet_header_length : ℕ
ethernet_header_length = 14

abbrev pub tagged_header_length : ℕ
tagged_header_length = 18

-- ---- limits of a run; they are this project's own

-- the most frames of a capture
abbrev pub most_frames : ℕ
most_frames = 200000

-- the most ports
abbrev pub most_ports : ℕ
most_ports = 32

-- the most notices that a port's mailbox holds
abbrev pub most_mail : ℕ
most_mail = 65536

-- the most places that queues are divided among
abbrev pub most_places : ℕ
most_places = 64
