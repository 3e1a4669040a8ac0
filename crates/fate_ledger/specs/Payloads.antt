-- Where the bytes of packets come from: from the frames that they were read with, or from verdicts.
use Rattle.std.specs.Prelude.{◌≡◌, ◌≤◌, ◌⊎◌, ℕ, length, true}
use Rattle.packet_entry.specs.Numbers.{longest_payload}
use Rattle.pcap_io.specs.declared.capture.Frame.{Frame}
use Rattle.pcap_io.specs.FramePackets.{IsRead}
use Rattle.fate_ledger.specs.declared.fate.Fate.TheVariants.{Unhooked}
use Rattle.fate_ledger.specs.declared.fate.FateLine.{FateLine}
use Rattle.fate_ledger.specs.Ledger.{is_release}

-- A line's payload is the whole frame, which isn't released but as it was read; or the packet that
-- the frame was read with; or no longer than a verdict's payload may be.
abbrev pub IsPayload : ℕ → Frame → FateLine → Type 0
IsPayload link f l =
    ((l.payload ≡ f.bytes) × (is_release l.fate ≡ true → l.fate ≡ Unhooked))
    ⊎ (IsRead link f l.payload ⊎ (length l.payload ≤ longest_payload))
