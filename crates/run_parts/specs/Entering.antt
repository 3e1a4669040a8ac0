-- The packets of a capture's frames, as they enter: before they meet a queue. What a frame's bytes
-- are is told by the capture's link type (the pcap file format).
use Rattle.std.specs.Prelude.{ℕ, ◌+◌, ◌/◌, Bool, List, [], ◌∷◌, ◌++◌, take, drop, Option}
use Rattle.std.specs.Prelude.{option_map, option_to_list, if◌then◌else◌}
use Rattle.packet_entry.specs.declared.packet.Card.{Card}
use Rattle.packet_entry.specs.Card.{opening_card}
use Rattle.ip_fields.specs.declared.frame.LinkCut.{LinkCut}
use Rattle.ip_fields.specs.Frame.{cut_of}
use Rattle.pcap_io.specs.declared.capture.Capture.{Capture}
use Rattle.pcap_io.specs.declared.capture.Frame.{Frame}
use Rattle.run_parts.specs.Numbers.{nanos_in_a_micro}

-- a record's fraction of a second in microseconds, rounded down
abbrev pub micros_of : Bool → ℕ → ℕ
micros_of nanos fraction = if nanos then fraction / nanos_in_a_micro else fraction

-- the packet of a frame that is IP: all its bytes from where the packet starts
abbrev pub card_at : Capture → ℕ → Frame → LinkCut → Card
card_at c number f cut =
    opening_card number f.seconds (micros_of c.nanos f.fraction) cut.protocol
    (take cut.length f.bytes) (drop cut.length f.bytes)

-- the packet of a frame; none of a frame that isn't IP
abbrev pub card_of : Capture → ℕ → Frame → Option Card
card_of c number f = option_map (card_at c number f) (cut_of c.link f.bytes)

-- the packets of frames that count from this number on
abbrev pub cards_from : Capture → ℕ → List Frame → List Card
cards_from c number [] = []
cards_from c number (f ∷ fs) =
    option_to_list (card_of c number f) ++ cards_from c (number + 1) fs

-- all packets of a capture: its frames count from 1
abbrev pub cards : Capture → List Card
cards c = cards_from c 1 c.frames
