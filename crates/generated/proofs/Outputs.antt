-- The words of a number are the generator's outputs in their order.
use Rattle.std.proofs.Common.{◌≡◌, ℕ, zero, suc, ◌+◌, ◌-◌, List, ◌∷◌, replicate, refl, ap, ◌∙◌}
use Rattle.std.proofs.Common.{arith}
use Rattle.std.specs.Prelude.{map}
use Rattle.std.specs.List.{range_with_len}
use Rattle.rand_core.specs.Stream.{u64_call}
use Rattle.rand_core.specs.Steps.{first_words, state_after, steps_u64_high, stream_of}
use Rattle.rand_xoshiro.specs.SplitMix64.{splitmix_seed}
use Rattle.rand_xoshiro.specs.Xoshiro256.{of_seed, plus_plus}
use Rattle.generated.specs.Stream.{seed_length, seeded, word}

-- what the generator gives from a state on, behind so many outputs
output : List ℕ → ℕ → ℕ
output state before =
    (plus_plus (state_after (steps_u64_high plus_plus) (replicate before u64_call) state)).0

output_first : (state : List ℕ) → output state 0 ≡ (plus_plus state).0
unfolding output
output_first state = refl

output_later : (state : List ℕ) (k : ℕ) → output state (suc k) ≡ output (plus_plus state).1 k
unfolding output
output_later state k = refl

outputs : (f : ℕ → ℕ) (state : List ℕ) (a n : ℕ) → ((k : ℕ) → f (a + k) ≡ output state k) →
    map f (range_with_len a n) ≡ first_words plus_plus n state
unfolding first_words
outputs f state a zero is = refl
outputs f state a (suc n) is =
    let first : f a ≡ (plus_plus state).0 =
    ap f (omega arith) ∙ is 0 ∙ output_first state in
    let rest : map f (range_with_len (a + 1) n) ≡ first_words plus_plus n (plus_plus state).1 =
    outputs f (plus_plus state).1 (a + 1) n
    (λ k. ap f (omega arith) ∙ is (suc k) ∙ output_later state k) in
    λ i. first i ∷ rest i

word_is : (number k : ℕ) →
    word number (1 + k) ≡ output (of_seed (splitmix_seed seed_length number)) k
unfolding seeded stream_of word output
word_is number k =
    let given : 1 + k - 1 ≡ k = omega arith in
    ap (λ (n : ℕ). (seeded number).u64_after (replicate n u64_call)) given

pub words_are : (number count : ℕ) → map (word number) (range_with_len 1 count)
    ≡ first_words plus_plus count (of_seed (splitmix_seed seed_length number))
words_are number count =
    outputs (word number) (of_seed (splitmix_seed seed_length number)) 1 count (word_is number)
