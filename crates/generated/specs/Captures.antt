-- A generated capture.
use Rattle.std.specs.Prelude.{ℕ, zero, suc, ◌+◌, false, List, [], ◌++◌, length, map}
use Rattle.std.specs.List.{range_with_len}
use Rattle.packet_entry.specs.Numbers.{longest_packet}
use Rattle.ip_fields.specs.Numbers.{link_raw}
use Rattle.pcap_io.specs.declared.capture.Capture.{Capture}
use Rattle.pcap_io.specs.declared.capture.Frame.{Frame}
use Rattle.generated.specs.Stream.{word}
use Rattle.generated.specs.Packets.{packet}

-- a packet that was captured whole, at this second
abbrev pub captured : ℕ → List ℕ → Frame
captured second bytes = record {
  seconds = second;
  fraction = 0;
  original = length bytes;
  bytes = bytes;
}

-- record i, counted from 1: the packet of the i-th word, at second i
unfoldable pub record_of : ℕ → ℕ → Frame
record_of number i = captured i (packet (word number i))

-- the records from 1 to this count
abbrev pub records : ℕ → ℕ → List Frame
records number count = map (record_of number) (range_with_len 1 count)

-- the packets of so many words from the i-th on, one behind the other
abbrev pub packets_from : ℕ → ℕ → ℕ → List ℕ
packets_from number i zero = []
packets_from number i (suc more) = packet (word number i) ++ packets_from number (i + 1) more

-- a file of these records, in little-endian order, with microseconds, of packets without a link
-- header
abbrev pub file_of : List Frame → Capture
file_of frames = record {
  big = false;
  nanos = false;
  zone = 0;
  sigfigs = 0;
  snap = longest_packet;
  link = link_raw;
  frames = frames;
}

-- the capture of a number, with so many records
unfoldable pub generated_capture : ℕ → ℕ → Capture
generated_capture number count = file_of (records number count)
