-- The capture of the frames that were released.
use Rattle.std.specs.Prelude.{ℕ, List, [], ◌∷◌, ◌++◌, length, take, drop, Option}
use Rattle.std.specs.Prelude.{Some, None, Bool, true, false, ◌||◌, if◌then◌else◌}
use Rattle.std.specs.Str.{bytes_eq}
use Rattle.ip_fields.specs.declared.frame.LinkCut.{LinkCut}
use Rattle.ip_fields.specs.Frame.{cut_of}
use Rattle.pcap_io.specs.declared.capture.Capture.{Capture}
use Rattle.pcap_io.specs.declared.capture.Frame.{Frame}
use Rattle.fate_ledger.specs.declared.fate.Fate.{Fate}
use Rattle.fate_ledger.specs.declared.fate.Fate.TheVariants as fate
use Rattle.fate_ledger.specs.declared.fate.FateLine.{FateLine}
use Rattle.fate_ledger.specs.Ledger.{is_release}

abbrev pub is_unhooked : Fate → Bool
is_unhooked fate.Unhooked = true
is_unhooked other = false

-- a frame with these bytes, which is then all of it; its time stays
abbrev pub with_bytes : Frame → List ℕ → Frame
with_bytes f bytes = record f { original = length bytes; bytes = bytes }

-- a frame whose packet begins here: as it was read where it was never queued, or where its last
-- payload is the packet that it was read with; else with that payload behind its link header
abbrev pub written_cut : Option LinkCut → Frame → FateLine → Frame
written_cut None f l = f
written_cut (Some cut) f l =
    if is_unhooked l.fate || bytes_eq (drop cut.length f.bytes) l.payload then f
    else with_bytes f (take cut.length f.bytes ++ l.payload)

-- a released frame as it is written, under this link type; one that isn't IP is as it was read
abbrev pub written : ℕ → Frame → FateLine → Frame
written link f l = written_cut (cut_of link f.bytes) f l

-- the frames whose fate is a release, in their order
abbrev pub frames : ℕ → List Frame → List FateLine → List Frame
frames link [] ls = []
frames link (f ∷ fs) [] = []
frames link (f ∷ fs) (l ∷ ls) =
    if is_release l.fate then written link f l ∷ frames link fs ls else frames link fs ls

-- under the header of the capture
abbrev pub released : Capture → List FateLine → Capture
released c ls = record c { frames = frames c.link c.frames ls }
