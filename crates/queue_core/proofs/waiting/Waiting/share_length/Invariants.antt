use Rattle.std.proofs.Common.{◌≡◌, ◌+◌, length, drop}
use Rattle.queue_core.specs.Share.{share}
use Rattle.queue_core.proofs.waiting.Waiting.share_length.Given as goal

-- so many of the share have been passed
abbrev pub invariant-loop-place : goal.invariant-loop-place
invariant-loop-place l =
    l.place + length (share (drop l.place l.self) l.maximum) ≡ length (share l.self l.maximum)
