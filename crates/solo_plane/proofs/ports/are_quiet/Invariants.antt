use Rattle.std.proofs.Common.{◌≡◌, ◌<◌, ℕ, false}
use Rattle.std.specs.Prelude.{option_map, slice_get}
use Rattle.solo_plane.specs.Notices.{has_notice}
use Rattle.solo_plane.specs.PortView.{port_of}
use Rattle.solo_plane.proofs.ports.are_quiet.Given as goal

abbrev pub invariant-loop-place : goal.invariant-loop-place
invariant-loop-place l =
    (k : ℕ) → k < l.place →
    has_notice (option_map port_of (slice_get l.ports.states.items k)) ≡ false
