-- The files of captures.
use Rattle.std.proofs.Common.{◌≡◌, ℕ, ◌+◌, ◌*◌, ◌≤◌, false, List, [], ◌∷◌, ◌++◌, length, refl}
use Rattle.std.proofs.Common.{arith, length-append}
use Rattle.std.specs.Prelude.{All, flat_map}
use Rattle.std.specs.Int.{w32}
use Rattle.std.proofs.lemmas.List.Elements.{All-head, All-tail}
use Rattle.pcap_io.specs.declared.capture.Frame.{Frame}
use Rattle.pcap_io.specs.Numbers.{file_header_length, record_header_length}
use Rattle.pcap_io.specs.Text.{capture_text, field, header_text, record_text}
use Rattle.generated.specs.Captures.{file_of, generated_capture, records}
use Rattle.generated.specs.Numbers.{longest_generated}
use Rattle.generated.proofs.Records.{length-records, records_are_short}

length-header_text : (frames : List Frame) →
    length (header_text (file_of frames)) ≡ file_header_length
unfolding header_text
length-header_text frames = refl

length-record_text : (f : Frame) →
    length (record_text false f) ≡ record_header_length + length f.bytes
unfolding record_text
length-record_text f =
    length-append
    (field false w32 f.seconds ++ field false w32 f.fraction ++ field false w32 (length f.bytes)
    ++ field false w32 f.original) f.bytes

abbrev IsShort : Frame → Type 0
IsShort f = length f.bytes ≤ longest_generated

records_size : (frames : List Frame) → All IsShort frames →
    length (flat_map (record_text false) frames)
    ≤ length frames * (record_header_length + longest_generated)
records_size [] short = omega arith
records_size (f ∷ frames) short =
    omega (
      arith,
      length-append (record_text false f) (flat_map (record_text false) frames),
      length-record_text f,
      All-head IsShort f frames short,
      records_size frames (All-tail IsShort f frames short),
    )

pub file_size : (number count : ℕ) → length (capture_text (generated_capture number count))
    ≤ file_header_length + count * (record_header_length + longest_generated)
unfolding generated_capture
file_size number count =
    omega (
      arith,
      length-append (header_text (file_of (records number count)))
          (flat_map (record_text false) (records number count)),
      length-header_text (records number count),
      length-records number count,
      records_size (records number count) (records_are_short number count),
    )
