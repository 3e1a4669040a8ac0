-- A record that is read is the front of the text, and a record that is spelled is read again.
use Rattle.std.proofs.Common.{◌≡◌, ℕ, ◌+◌, ◌-◌, ◌<◌, ◌≤◌, ◌^◌, Bool, false, ltb, List, ◌++◌}
use Rattle.std.proofs.Common.{length, take, Ok, refl, sym, ap, subst, ◌∙◌, arith, lit≤}
use Rattle.std.specs.Prelude.{slice_range}
use Rattle.std.specs.Int.{w32}
use Rattle.std.proofs.lemmas.Bool.{ltb-false, le-ltb}
use Rattle.std.proofs.lemmas.List.{length-append, take_at}
use Rattle.packet_entry.specs.Numbers.{longest_packet}
use Rattle.pcap_io.specs.declared.capture.Frame.{Frame}
use Rattle.pcap_io.specs.declared.fault.CaptureFault.TheVariants.{Cut, TooLong}
use Rattle.pcap_io.specs.Text.{field, record_text, FrameFits}
use Rattle.pcap_io.specs.Reading.{number_at, read_record}
use Rattle.pcap_io.proofs.FieldValues.{IsBytes, joined, length-range, behind32, at_below, guarded}
use Rattle.pcap_io.proofs.FieldValues.{ok_is, four, four_is, number_again}

-- a frame that a record can hold
pub record IsStored (f : Frame) : Type 0 where
  pub fits : FrameFits f
  pub short : length f.bytes ≤ longest_packet

-- what a record that was read says of the text
pub record Takes (big : Bool) (text : List ℕ) (f : Frame) : Type 0 where
  pub long : 16 + length f.bytes ≤ length text
  pub stored : IsStored f
  pub spelled : record_text big f ≡ take (16 + length f.bytes) text

pub record_takes : (big : Bool) (n place : ℕ) (text : List ℕ) (f : Frame) → IsBytes text →
    read_record big n place text ≡ Ok f → Takes big text f
unfolding read_record record_text
record_takes big n place text f fits e =
    let captured = number_at big w32 8 text in
    let bytes = slice_range text 16 (16 + captured) in
    let made : Frame =
    record {
      seconds = number_at big w32 0 text;
      fraction = number_at big w32 4 text;
      original = number_at big w32 12 text;
      bytes = bytes;
    } in
    let g = guarded (ltb (length text) 16) (Cut n place) _ f e in
    let h = guarded (ltb longest_packet captured) (TooLong n captured) _ f g.1 in
    let k = guarded (ltb (length text) (16 + captured)) (Cut n place) (Ok made) f h.1 in
    let header : 16 ≤ length text = ltb-false (length text) 16 g.0 in
    let short : captured ≤ longest_packet = ltb-false longest_packet captured h.0 in
    let long : 16 + captured ≤ length text = ltb-false (length text) (16 + captured) k.0 in
    let len : length bytes ≡ captured = omega (arith, length-range text 16 (16 + captured)) in
    let next : (at : ℕ) → at + 4 ≤ 16 →
    take at text ++ field big w32 (number_at big w32 at text) ≡ take (at + 4) text =
    λ at within. behind32 big text at fits (omega arith) in
    let behind : 16 ≤ 16 + captured = omega arith in
    let spelled : record_text big made ≡ take (16 + captured) text =
    rw (
      len,
      next 0 (lit≤ tt),
      next 4 (lit≤ tt),
      next 8 (lit≤ tt),
      next 12 (lit≤ tt),
      joined text 16 (16 + captured) behind,
    ) refl in
    subst (λ (x : Frame). Takes big text x) (ok_is made f k.1) (record {
      long = omega arith;
      stored = record {
        fits = record {
          seconds = at_below big text 0 fits;
          fraction = at_below big text 4 fits;
          original = at_below big text 12 fits;
        };
        short = omega arith;
      };
      spelled = spelled ∙ ap (λ (m : ℕ). take (16 + m) text) (sym len);
    })

pub record_again : (big : Bool) (n place : ℕ) (f : Frame) (rest : List ℕ) → IsStored f →
    read_record big n place (record_text big f ++ rest) ≡ Ok f
unfolding read_record record_text
record_again big n place f rest s =
    let size : ℕ = length f.bytes in
    let text =
    ((four big f.seconds ++ four big f.fraction) ++ four big size) ++ four big f.original
    ++ f.bytes ++ rest in
    let header : ltb (length text) 16 ≡ false = le-ltb _ _ (omega arith) in
    let count : size < 2 ^ 32 = omega (arith, s.short) in
    let few : ltb longest_packet size ≡ false = le-ltb _ _ s.short in
    let long : ltb (length text) (16 + size) ≡ false =
    le-ltb _ _ (omega (arith, length-append f.bytes rest)) in
    let back : 16 + size - 16 ≡ size = omega arith in
    rw (
      four_is big f.seconds,
      four_is big f.fraction,
      four_is big size,
      four_is big f.original,
      header,
      number_again big size count,
      few,
      long,
      number_again big f.seconds s.fits.seconds,
      number_again big f.fraction s.fits.fraction,
      number_again big f.original s.fits.original,
      back,
      take_at f.bytes rest size refl,
    ) refl
