-- What is wrong with a text that is no capture file: the first fault from the front. The layout is
-- that of pcap-savefile(5). In each table of tests below the first line that applies decides.
use Rattle.std.specs.Prelude.{◌≡◌, ℕ, ◌+◌, ◌<◌, Bool, true, false, not, ◌==◌, ◌&&◌, if◌then◌else◌}
use Rattle.std.specs.Prelude.{nat_lt, List, [], ◌++◌, length, slice_range, Result, Ok, Err, ◌⊎◌}
use Rattle.std.specs.Int.{Width, w16, w32, byte_len, from_be_bytes, from_le_bytes}
use Rattle.packet_entry.specs.Numbers.{longest_packet}
use Rattle.pcap_io.specs.declared.capture.Capture.{Capture}
use Rattle.pcap_io.specs.declared.capture.Frame.{Frame}
use Rattle.pcap_io.specs.declared.fault.CaptureFault.{CaptureFault}
use Rattle.pcap_io.specs.declared.fault.CaptureFault.TheVariants.{Magic, Pcapng, Version, LinkType}
use Rattle.pcap_io.specs.declared.fault.CaptureFault.TheVariants.{Cut, TooLong, NoMemory}
use Rattle.pcap_io.specs.Numbers.{file_header_length, record_header_length, microsecond_magic}
use Rattle.pcap_io.specs.Numbers.{nanosecond_magic, microsecond_magic_swapped}
use Rattle.pcap_io.specs.Numbers.{nanosecond_magic_swapped, pcapng_block, major_version}
use Rattle.pcap_io.specs.Numbers.{minor_version, major_at, minor_at, zone_at, sigfigs_at, snap_at}
use Rattle.pcap_io.specs.Numbers.{link_at, seconds_at, fraction_at, captured_at, original_at}
use Rattle.pcap_io.specs.Numbers.{magic_length, magic_at}
use Rattle.pcap_io.specs.Text.{is_link_type, IsCapture}

infixl 10 ◌>>=◌
abbrev pub ◌>>=◌ : {A B : Type 0} → Result A CaptureFault → (A → Result B CaptureFault) →
    Result B CaptureFault
(Ok x) >>= f = f x
(Err e) >>= f = Err e

-- what a call answered is this, unless memory ran out
abbrev pub Fails : {A : Type 0} → CaptureFault → Result A CaptureFault → Type 0
Fails NoMemory wanted = Unit {0}
Fails fault wanted = wanted ≡ Err fault

abbrev pub Gives : {A : Type 0} → Result A CaptureFault → Result A CaptureFault → Type 0
Gives (Ok x) wanted = wanted ≡ Ok x
Gives (Err fault) wanted = Fails fault wanted

-- the value of a field's bytes
abbrev pub field_value : Bool → Width → List ℕ → ℕ
field_value big w bytes = if big then from_be_bytes w bytes else from_le_bytes w bytes

-- the number in the field that begins at a byte of a text
abbrev pub number_at : Bool → Width → ℕ → List ℕ → ℕ
number_at big w at text = field_value big w (slice_range text at (at + byte_len w))

-- byte order and resolution, by the first four bytes read as big-endian: whether the file is
-- big-endian, and whether its fractions are nanoseconds. A pcapng file begins with its section
-- header block's type.
abbrev pub resolution_of : ℕ → Result (Bool × Bool) CaptureFault
resolution_of magic =
    if magic == pcapng_block then Err Pcapng
    else if magic == microsecond_magic then Ok (true, false)
    else if magic == nanosecond_magic then Ok (true, true)
    else if magic == microsecond_magic_swapped then Ok (false, false)
    else if magic == nanosecond_magic_swapped then Ok (false, true)
    else Err Magic

abbrev pub read_magic : List ℕ → Result (Bool × Bool) CaptureFault
read_magic text =
    if nat_lt (length text) magic_length then Err Magic
    else resolution_of (number_at true w32 magic_at text)

-- the header in this byte order, as a capture without frames, or the first thing that is
-- wrong with it
unfoldable pub fields_at : Bool → Bool → List ℕ → Result Capture CaptureFault
fields_at big nanos text =
    if nat_lt (length text) file_header_length then Err (Cut 0 0)
    else if not (number_at big w16 major_at text == major_version
    && number_at big w16 minor_at text == minor_version) then Err Version
    else if not (is_link_type (number_at big w32 link_at text))
    then Err (LinkType (number_at big w32 link_at text))
    else Ok (record {
      big = big;
      nanos = nanos;
      zone = number_at big w32 zone_at text;
      sigfigs = number_at big w32 sigfigs_at text;
      snap = number_at big w32 snap_at text;
      link = number_at big w32 link_at text;
      frames = [];
    })

-- the same in the byte order that the magic number tells
unfoldable pub read_header : List ℕ → Result Capture CaptureFault
read_header text = read_magic text >>= λ magic. fields_at magic.0 magic.1 text

-- the first record, of the frame with this number, at this byte of the file, or the first thing
-- that is wrong with it
unfoldable pub read_record : Bool → ℕ → ℕ → List ℕ → Result Frame CaptureFault
read_record big frame_number at text =
    if nat_lt (length text) record_header_length then Err (Cut frame_number at)
    else if nat_lt longest_packet (number_at big w32 captured_at text)
    then Err (TooLong frame_number (number_at big w32 captured_at text))
    else if nat_lt (length text) (record_header_length + number_at big w32 captured_at text)
    then Err (Cut frame_number at)
    else Ok (record {
      seconds = number_at big w32 seconds_at text;
      fraction = number_at big w32 fraction_at text;
      original = number_at big w32 original_at text;
      bytes = slice_range text record_header_length
          (record_header_length + number_at big w32 captured_at text);
    })

-- The text is a whole capture, and then a record that is cut or too long. The fault tells the
-- number of that record, counted from 1, and the byte at which it begins where it is cut, and else
-- its length.
pub record BreaksOff (text : List ℕ) (fault : CaptureFault) : Type 0 where
  pub before : List ℕ
  pub capture : Capture
  pub whole : IsCapture before capture
  pub rest : List ℕ
  pub parts : text ≡ before ++ rest
  pub more : 0 < length rest
  pub broken : read_record capture.big (length capture.frames + 1) (length before) rest ≡ Err fault

-- the first fault of a text
abbrev pub IsFault : List ℕ → CaptureFault → Type 0
IsFault text fault = (read_header text ≡ Err fault) ⊎ BreaksOff text fault
