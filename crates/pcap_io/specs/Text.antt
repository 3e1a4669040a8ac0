-- A capture file as the text of a capture: libpcap's classic format, version 2.4, as
-- pcap-savefile(5) has it. The link types are those of the registry at
-- www.tcpdump.org/linktypes.html.
use Rattle.std.specs.Prelude.{◌≡◌, ℕ, ◌<◌, ◌≤◌, ◌^◌, Bool, IsTrue, ◌==◌, ◌||◌, if◌then◌else◌, List}
use Rattle.std.specs.Prelude.{◌++◌, length}
use Rattle.std.specs.List.{flat_map, All}
use Rattle.std.specs.Int.{Width, w16, w32, to_be_bytes, to_le_bytes}
use Rattle.packet_entry.specs.Numbers.{longest_packet}
use Rattle.ip_fields.specs.Numbers.{link_ethernet, link_raw, link_ipv4, link_ipv6}
use Rattle.pcap_io.specs.declared.capture.Capture.{Capture}
use Rattle.pcap_io.specs.declared.capture.Frame.{Frame}
use Rattle.pcap_io.specs.Numbers.{microsecond_magic, nanosecond_magic, major_version, minor_version}

-- a number of a header: all are in one byte order, the capture's
abbrev pub field : Bool → Width → ℕ → List ℕ
field big w n = if big then to_be_bytes w n else to_le_bytes w n

-- the magic number tells whether fractions count nanoseconds or microseconds
abbrev pub magic_of : Bool → ℕ
magic_of nanos = if nanos then nanosecond_magic else microsecond_magic

-- the file's header, field by field:
--    0  4  magic number, by which the byte order and the resolution are told
--    4  2  major version
--    6  2  minor version
--    8  4  time zone
--   12  4  accuracy of times
--   16  4  snap length
--   20  4  link type
unfoldable pub header_text : Capture → List ℕ
header_text c =
    field c.big w32 (magic_of c.nanos)
    ++ field c.big w16 major_version
    ++ field c.big w16 minor_version
    ++ field c.big w32 c.zone
    ++ field c.big w32 c.sigfigs
    ++ field c.big w32 c.snap
    ++ field c.big w32 c.link

-- a record, field by field:
--    0  4  seconds
--    4  4  fraction of a second, in the file's resolution
--    8  4  captured length
--   12  4  original length
--   16     the captured bytes
unfoldable pub record_text : Bool → Frame → List ℕ
record_text big f =
    field big w32 f.seconds
    ++ field big w32 f.fraction
    ++ field big w32 (length f.bytes)
    ++ field big w32 f.original
    ++ f.bytes

-- the whole file: the header, and a record for each frame until the end
abbrev pub capture_text : Capture → List ℕ
capture_text c = header_text c ++ flat_map (record_text c.big) c.frames

-- the link types that are taken: Ethernet, raw IP, IPv4 and IPv6
abbrev pub is_link_type : ℕ → Bool
is_link_type link =
    link == link_ethernet || link == link_raw || link == link_ipv4 || link == link_ipv6

-- a capture that the format can hold: a link type that is taken, and no frame above libpcap's own
-- limit
pub record IsHeld (c : Capture) : Type 0 where
  pub link : IsTrue (is_link_type c.link)
  pub lengths : All (λ f. length f.bytes ≤ longest_packet) c.frames

-- each number of a frame is one of 32 bits
pub record FrameFits (f : Frame) : Type 0 where
  pub seconds : f.seconds < 2 ^ 32
  pub fraction : f.fraction < 2 ^ 32
  pub original : f.original < 2 ^ 32

-- each number of a capture is one of 32 bits, as in every value of the program's type
pub record FieldsFit (c : Capture) : Type 0 where
  pub zone : c.zone < 2 ^ 32
  pub sigfigs : c.sigfigs < 2 ^ 32
  pub snap : c.snap < 2 ^ 32
  pub link : c.link < 2 ^ 32
  pub frames : All FrameFits c.frames

-- the text is the file of this capture
pub record IsCapture (text : List ℕ) (c : Capture) : Type 0 where
  pub held : IsHeld c
  pub fits : FieldsFit c
  pub spelled : text ≡ capture_text c
