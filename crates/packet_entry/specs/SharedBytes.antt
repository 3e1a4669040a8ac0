-- What bytes are that share a buffer.
use Rattle.std.specs.Prelude.{ℕ, ◌+◌, ◌≤◌, List, [], length, slice_range, ⊤}
use Rattle.std.specs.Arc.{arc_value}
use Rattle.packet_entry.specs.declared.bytes.Form.{Form}
use Rattle.packet_entry.specs.declared.bytes.Form.TheVariants.{Empty, Whole, Part}

-- the bytes: none, all of the buffer, or so many of it from `start` on
abbrev pub bytes_of : Form → List ℕ
bytes_of Empty = []
bytes_of (Whole buffer) = (arc_value buffer).items
bytes_of (Part count start buffer) = slice_range (arc_value buffer).items start (start + count)

-- a part lies within its buffer, whose places are numbers of 32 bits
abbrev pub IsWithin : Form → Type 0
IsWithin Empty = ⊤
IsWithin (Whole buffer) = length (arc_value buffer).items ≤ 4294967295
IsWithin (Part count start buffer) =
    (start + count ≤ length (arc_value buffer).items)
    × (length (arc_value buffer).items ≤ 4294967295)
