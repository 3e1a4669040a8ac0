-- The numbers of libpcap's classic capture files, version 2.4 (pcap-savefile(5)), each once.
-- Lengths and places count bytes, places from 0 at the front of their header. The link types that
-- are taken are ip_fields's, and the most bytes of a frame are packet_entry's.
use Rattle.std.specs.Prelude.{ℕ}

-- ---- the file's header

abbrev pub file_header_length : ℕ
file_header_length = 24

abbrev pub magic_length : ℕ
magic_length = 4

abbrev pub magic_at : ℕ
magic_at = 0

-- the magic number of a file whose fractions are microseconds, in the file's own byte order, and
-- the same four bytes in the other order
abbrev pub microsecond_magic : ℕ
microsecond_magic = 0xa1b2_c3d4

abbrev pub microsecond_magic_swapped : ℕ
microsecond_magic_swapped = 0xd4c3_b2a1

-- the same two for nanoseconds
abbrev pub nanosecond_magic : ℕ
nanosecond_magic = 0xa1b2_3c4d

abbrev pub nanosecond_magic_swapped : ℕ
nanosecond_magic_swapped = 0x4d3c_b2a1

-- the first four bytes of a pcapng file, its section header block's type, which reads the same in
-- either order
abbrev pub pcapng_block : ℕ
pcapng_block = 0x0a0d_0d0a

abbrev pub major_version : ℕ
major_version = 2

abbrev pub minor_version : ℕ
minor_version = 4

abbrev pub major_at : ℕ
major_at = 4

abbrev pub minor_at : ℕ
minor_at = 6

abbrev pub zone_at : ℕ
zone_at = 8

abbrev pub sigfigs_at : ℕ
sigfigs_at = 12

abbrev pub snap_at : ℕ
snap_at = 16

abbrev pub link_at : ℕ
link_at = 20

-- ---- a record's header, which the captured bytes follow

abbrev pub record_header_length : ℕ
record_header_length = 16

abbrev pub seconds_at : ℕ
seconds_at = 0

abbrev pub fraction_at : ℕ
fraction_at = 4

abbrev pub captured_at : ℕ
captured_at = 8

abbrev pub original_at : ℕ
original_at = 12
