use Rattle.std.proofs.Common.{◌∙◌, rules}
use Rattle.glance.proofs.StepRule.{opens}
use Rattle.glance.proofs.Zeros.{zeros_at, zeros_length}
use Rattle.glance.proofs.board.Board.new.Goals as goal

pub of_words-requires : goal.of_words-requires
of_words-requires c =
    opens _ _ (zeros_length c.from-2.result 64 (search rules) ∙ (search rules))
    (λ k. zeros_at c.from-2.result 64 k)
