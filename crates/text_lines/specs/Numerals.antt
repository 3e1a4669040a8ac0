-- Numbers as words.
use Rattle.std.specs.Prelude.{ℕ, ◌≡◌, ◌<◌, ◌^◌, List, decimal}

-- a word spells this number of 32 bits: its decimal digits, without a leading zero
pub record IsNumeral (word : List ℕ) (n : ℕ) : Type 0 where
  pub spelled : word ≡ decimal n
  pub fits : n < 2 ^ 32
