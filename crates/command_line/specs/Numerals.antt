-- The numbers that arguments give: decimal digits, without a leading zero but in `0` itself.
use Rattle.std.specs.Prelude.{ℕ, ◌+◌, ◌-◌, ◌*◌, ◌^◌, ◌==◌, ◌&&◌, ◌||◌, nat_le, nat_lt, List, []}
use Rattle.std.specs.Prelude.{◌∷◌, length, slice_index, Option, Some, None, if◌then◌else◌}
use Rattle.text_lines.specs.Digits.{below}
use Rattle.text_lines.specs.Numbers.{decimal_radix}
use Rattle.text_lines.specs.Words.{◌>>=◌, byte, is_digit}
use Rattle.packet_entry.specs.Numbers.{most_frames as most_records, most_places}
use Rattle.hook_chain.specs.Numbers.{most_feeders}
use Rattle.inspector_pool.specs.Numbers.{most_workers}

-- a number with one digit more at its end, where that is a digit and the number has 64 bits
abbrev pub with_digit : ℕ → ℕ → Option ℕ
with_digit n b =
    if is_digit b then below (2 ^ 64) (n * decimal_radix + (b - byte "0")) else None

-- the number that these digits make of what stands before them
unfoldable pub digits_onto : ℕ → List ℕ → Option ℕ
digits_onto n [] = Some n
digits_onto n (b ∷ bs) = do
  m ← with_digit n b
  digits_onto m bs

-- a number of 64 bits
abbrev pub number_of : List ℕ → Option ℕ
number_of word =
    if (length word == 0) || (nat_lt 1 (length word) && (slice_index word 0 == byte "0"))
    then None else digits_onto 0 word

-- how many, where it is 1 at least and this at most
abbrev pub number_up_to : ℕ → List ℕ → Option ℕ
number_up_to most word = do
  n ← number_of word
  if nat_le 1 n && nat_le n most then Some n else None

-- how many records
abbrev pub count_of : List ℕ → Option ℕ
count_of = number_up_to most_records

-- how many places
abbrev pub places_of : List ℕ → Option ℕ
places_of = number_up_to most_places

-- how many feeders
abbrev pub feeders_of : List ℕ → Option ℕ
feeders_of = number_up_to most_feeders

-- how many workers behind each port
abbrev pub workers_of : List ℕ → Option ℕ
workers_of = number_up_to most_workers
