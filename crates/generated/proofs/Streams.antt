-- Words are taken from a generator in their order.
use Rattle.std.proofs.Common.{◌≡◌, ℕ, ◌+◌, ◌-◌, List, [], ◌∷◌, ◌++◌, replicate, refl, ap, sym, ◌∙◌}
use Rattle.std.proofs.Common.{arith, append_assoc, append-nil}
use Rattle.std.proofs.lemmas.Grind.{replicate_next}
use Rattle.rand_core.specs.Stream.{Call, Stream, after, next_u64, u64_call}
use Rattle.generated.specs.Stream.{seeded, word}

-- the stream behind so many words of a number
pub record IsBehind (number given : ℕ) (s : Stream) : Type 0 where
  pub answers : (calls : List Call) →
      s.u64_after calls ≡ (seeded number).u64_after (replicate given u64_call ++ calls)

pub at_start : (number : ℕ) → IsBehind number 0 (seeded number)
at_start number = record { answers = λ calls. refl }

-- one word more
pub behind_next : (number given : ℕ) (s : Stream) → IsBehind number given s →
    IsBehind number (given + 1) (after u64_call s)
behind_next number given s behind = record {
  answers = λ calls. behind.answers (u64_call ∷ calls)
      ∙ ap (λ cs. (seeded number).u64_after cs)
      (sym (append_assoc (replicate given u64_call) (u64_call ∷ []) calls)
      ∙ ap (λ cs. cs ++ calls) (sym (replicate_next given u64_call)));
}

-- the word that comes next
pub next_word : (number given : ℕ) (s : Stream) → IsBehind number given s →
    (next_u64 s).0 ≡ word number (given + 1)
unfolding next_u64 word
next_word number given s behind =
    let same : given + 1 - 1 ≡ given = omega arith in
    behind.answers []
    ∙ ap (λ cs. (seeded number).u64_after cs) (append-nil (replicate given u64_call)
    ∙ ap (λ n. replicate n u64_call) (sym same))
