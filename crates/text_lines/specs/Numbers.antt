-- The numbers of text files, each once: bytes by their ASCII codes, and the radices of numbers.
use Rattle.std.specs.Prelude.{ℕ}

-- the bytes that have no sign (ASCII): the horizontal tab, and LF, which ends a line
abbrev pub tab : ℕ
tab = 9

abbrev pub line_feed : ℕ
line_feed = 10

-- the radix of numbers without a prefix, and of those with `0x`
abbrev pub decimal_radix : ℕ
decimal_radix = 10

abbrev pub hexadecimal_radix : ℕ
hexadecimal_radix = 16

-- the hexadecimal digits of a byte
abbrev pub byte_digits : ℕ
byte_digits = 2

-- what the digits `a` and `A` stand for
abbrev pub first_letter_digit : ℕ
first_letter_digit = 10
