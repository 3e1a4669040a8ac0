-- The fields of a header: numbers at fixed places, each with its lowest byte first.
use Rattle.std.specs.Prelude.{ℕ, List, drop}
use Rattle.byteorder.specs.Endian.{little_bytes, little_number}

-- a field: the byte of the header at which it begins, counted from 0, and how many bytes it has
pub record Field : Type 0 where
  pub at : ℕ
  pub width : ℕ

-- writing: the bytes of a number in a field
abbrev pub field_text : Field → ℕ → List ℕ
field_text field n = little_bytes field.width n

-- reading: the number that the bytes of a header tell in a field
abbrev pub told : Field → List ℕ → ℕ
told field bytes = little_number field.width (drop field.at bytes)
