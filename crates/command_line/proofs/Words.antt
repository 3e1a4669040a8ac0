-- Fewer words than a run has files are no `live` command.
use Rattle.std.proofs.Common.{◌≡◌, ℕ, ◌<◌, List, [], ◌∷◌, length, None, refl, arith}
use Rattle.command_line.specs.Arguments.{live_files_in}

pub too_few : (words : List (List ℕ)) → length words < 6 → live_files_in words ≡ None
too_few [] few = refl
too_few (a ∷ []) few = refl
too_few (a ∷ b ∷ []) few = refl
too_few (a ∷ b ∷ c ∷ []) few = refl
too_few (a ∷ b ∷ c ∷ d ∷ []) few = refl
too_few (a ∷ b ∷ c ∷ d ∷ e ∷ []) few = refl
too_few (a ∷ b ∷ c ∷ d ∷ e ∷ f ∷ words) few = absurd (omega arith)
