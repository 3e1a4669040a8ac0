-- Packets that were read with the frames of a capture.
use Rattle.std.specs.Prelude.{◌≡◌, ◌+◌, ℕ, List, drop, slice_get, All, Some}
use Rattle.packet_entry.specs.declared.packet.Card.{Card}
use Rattle.ip_fields.specs.declared.frame.LinkCut.{LinkCut}
use Rattle.ip_fields.specs.Frame.{cut_of}
use Rattle.pcap_io.specs.declared.capture.Frame.{Frame}

-- the bytes are a frame's from where its packet starts, under this link type
abbrev pub IsRead : ℕ → Frame → List ℕ → Type 0
IsRead link f bytes =
    (cut : LinkCut) × (cut_of link f.bytes ≡ Some cut) × (bytes ≡ drop cut.length f.bytes)

-- each of these packets whose number is a frame's, counted from 1, was read with that frame
abbrev pub AreRead : ℕ → List Frame → List Card → Type 0
AreRead link frames entered =
    All (λ (c : Card). (place : ℕ) (f : Frame) → slice_get frames place ≡ Some f →
    c.number ≡ place + 1 → IsRead link f c.bytes) entered
