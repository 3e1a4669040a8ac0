use Rattle.std.proofs.Common.{◌≡◌, ℕ, ◌<◌, length, get_or}
use Rattle.histories.proofs.rearranging.inverse.Given as goal

abbrev pub invariant-loop-place : goal.invariant-loop-place
invariant-loop-place l =
    (length l.to.items ≡ length l.from)
    × ((k : ℕ) → k < l.place → get_or l.to.items (get_or l.from k 0) 0 ≡ k)
