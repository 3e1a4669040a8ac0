-- How long a file is.
use Rattle.std.proofs.Common.{◌≡◌, ℕ, ◌+◌, ◌^◌, ◌<◌, ◌≤◌, Bool, List, ◌∷◌, length, arith, inl, inr}
use Rattle.std.proofs.lemmas.Bool.{cases_lt}
use Rattle.std.proofs.lemmas.List.{length-append}
use Rattle.pcap_io.specs.declared.capture.Capture.{Capture}
use Rattle.pcap_io.specs.declared.capture.Frame.{Frame}
use Rattle.pcap_io.specs.Text.{record_text, capture_text, header_text}
use Rattle.pcap_io.proofs.WholeFile.{records, length-record, length-header}

pub length-capture : (c : Capture) → length (capture_text c) ≡ 24 + length (records c.big c.frames)
length-capture c =
    omega (arith, length-append (header_text c) (records c.big c.frames), length-header c)

pub length-records : (big : Bool) (f : Frame) (fs : List Frame) →
    length (records big (f ∷ fs)) ≡ 16 + length f.bytes + length (records big fs)
length-records big f fs =
    omega (arith, length-append (record_text big f) (records big fs), length-record big f)

pub not_below : (n : ℕ) → (n < 2 ^ 64 → ⊥) → 2 ^ 64 ≤ n
not_below n h = elim (cases_lt n (2 ^ 64)) [ inl lt ↦ absurd (h lt) | inr le ↦ le ]
