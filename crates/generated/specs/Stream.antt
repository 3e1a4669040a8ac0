-- The words that inputs are generated from: the 64-bit outputs of xoshiro256++ (Blackman and Vigna,
-- "Scrambled linear pseudorandom number generators"), seeded from a number by SplitMix64, as
-- `seed_from_u64` does.
use Rattle.std.specs.Prelude.{ℕ, ◌-◌, replicate}
use Rattle.rand_core.specs.Stream.{Stream, u64_call}
use Rattle.rand_core.specs.Steps.{stream_of, steps_u64_high}
use Rattle.rand_xoshiro.specs.SplitMix64.{splitmix_seed}
use Rattle.rand_xoshiro.specs.Xoshiro256.{of_seed, plus_plus}

-- the bytes of a seed
abbrev pub seed_length : ℕ
seed_length = 32

-- all that the generator answers that is seeded from this number
unfoldable pub seeded : ℕ → Stream
seeded number = stream_of (steps_u64_high plus_plus) (of_seed (splitmix_seed seed_length number))

-- the i-th word, counted from 1: the answer to `next_u64` after i - 1 such calls
unfoldable pub word : ℕ → ℕ → ℕ
word number i = (seeded number).u64_after (replicate (i - 1) u64_call)
