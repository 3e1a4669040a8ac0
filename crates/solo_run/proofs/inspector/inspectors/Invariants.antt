use Rattle.std.proofs.Common.{◌≡◌, ◌<◌, ℕ, length, slice_index_or, Some}
use Rattle.packet_moves.specs.World.{opened}
use Rattle.solo_run.specs.RunState.{mind_of}
use Rattle.solo_run.specs.declared.inspector.Inspector.{Inspector}
use Rattle.solo_run.proofs.inspector.inspectors.Given as goal

abbrev pub invariant-loop-place : goal.invariant-loop-place
invariant-loop-place l =
    (length l.all.items ≡ l.place)
    × ((place : ℕ) (d : Inspector) → place < l.place →
    slice_index_or l.all.items place d ≡ mind_of place (Some opened))
