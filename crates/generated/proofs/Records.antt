-- Lists of records: how many there are, how long their packets are, and what a capture of them
-- keeps.
use Rattle.std.proofs.Common.{◌≡◌, ℕ, ◌+◌, ◌<◌, ◌≤◌, ◌^◌, List, [], ◌∷◌, ◌++◌, length, get_or, refl}
use Rattle.std.proofs.Common.{ap, ◌∙◌, Some, arith, lit<, take}
use Rattle.std.specs.Prelude.{All, slice_get}
use Rattle.std.specs.List.{range_with_len}
use Rattle.std.proofs.lemmas.List.Elements.{All-map}
use Rattle.std.proofs.lemmas.List.FromFn.{get_or-range_with_len, length-range_with_len}
use Rattle.std.proofs.lemmas.List.FromFn.{length-map-range_with_len, map-range_with_len_more}
use Rattle.std.proofs.lemmas.List.FromFn.{get_or-map-range_with_len, take-map-range_with_len}
use Rattle.std.proofs.lemmas.Option.{slice_get-get_or}
use Rattle.pcap_io.specs.declared.capture.Frame.{Frame}
use Rattle.pcap_io.specs.Text.{FieldsFit, FrameFits, IsHeld}
use Rattle.generated.specs.Captures.{captured, generated_capture, record_of, records}
use Rattle.generated.specs.Numbers.{longest_generated, most_records}
use Rattle.generated.specs.Packets.{packet}
use Rattle.generated.specs.Stream.{word}
use Rattle.generated.proofs.Lengths.{packet_is_short}

pub length-records : (number count : ℕ) → length (records number count) ≡ count
length-records number count = length-map-range_with_len (record_of number) 1 count

-- one record more, of the next word
pub records_more : (number count w : ℕ) (items : List Frame) (frame : Frame) →
    items ≡ records number count → frame ≡ captured (count + 1) (packet w) →
    w ≡ word number (count + 1) → items ++ frame ∷ [] ≡ records number (count + 1)
unfolding record_of
records_more number count w items frame before new same =
    let more :
    records number (count + 1) ≡ records number count ++ record_of number (count + 1) ∷ [] =
    map-range_with_len_more (record_of number) 1 count (count + 1) (omega arith) in
    let whole : frame ≡ record_of number (count + 1) =
    new ∙ ap (λ v. captured (count + 1) (packet v)) same in
    cc

pub records_are_short : (number count : ℕ) →
    All (λ (f : Frame). length f.bytes ≤ longest_generated) (records number count)
unfolding record_of
records_are_short number count =
    All-map (λ (f : Frame). length f.bytes ≤ longest_generated) (record_of number)
    (range_with_len 1 count)
    (λ k d within. packet_is_short (word number (get_or (range_with_len 1 count) k d)))

pub capture_is_held : (number count : ℕ) → IsHeld (generated_capture number count)
unfolding generated_capture
capture_is_held number count = record {
  link = refl;
  lengths = λ k d within.
      let short = records_are_short number count k d within in omega arith;
}

frame_fits : (number i : ℕ) → i < 2 ^ 32 → FrameFits (record_of number i)
unfolding record_of
frame_fits number i small = record {
  seconds = small;
  fraction = lit< tt;
  original = let short = packet_is_short (word number i) in omega arith;
}

pub capture_fits : (number count : ℕ) → count ≤ most_records →
    FieldsFit (generated_capture number count)
unfolding generated_capture
capture_fits number count few = record {
  zone = lit< tt;
  sigfigs = lit< tt;
  snap = lit< tt;
  link = lit< tt;
  frames = All-map FrameFits (record_of number) (range_with_len 1 count)
      (λ k d within.
      frame_fits number (get_or (range_with_len 1 count) k d)
      (omega (
        arith,
        length-range_with_len 1 count,
        get_or-range_with_len 1 count k d (omega (arith, length-range_with_len 1 count)),
      )));
}

pub record_at : (number count before : ℕ) → before < count →
    slice_get (records number count) before
    ≡ Some (captured (before + 1) (packet (word number (before + 1))))
unfolding record_of
record_at number count before within =
    slice_get-get_or (records number count) before (record_of number (before + 1))
    (omega (arith, length-records number count))
    ∙ ap (λ (f : Frame). Some f)
    (get_or-map-range_with_len (record_of number) 1 count before (before + 1)
    (record_of number (before + 1)) within (omega arith))

pub records_front : (number count more : ℕ) →
    take count (records number (count + more)) ≡ records number count
records_front number count more =
    take-map-range_with_len (record_of number) 1 (count + more) count (omega arith)
