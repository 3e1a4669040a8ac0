use Rattle.std.proofs.Common.{◌≡◌, ◌+◌, length, drop}
use Rattle.queue_core.specs.Share.{share}
use Rattle.queue_core.specs.Linked.{oldest_of}
use Rattle.queue_core.proofs.many_waiting.ManyWaiting.share_length.Given as goal

-- So many of the share have been passed; the next one is the oldest of what is left.
abbrev pub invariant-loop-count : goal.invariant-loop-count
invariant-loop-count l =
    (l.next ≡ oldest_of (drop l.count l.self))
    × (l.count + length (share (drop l.count l.self) l.maximum) ≡ length (share l.self l.maximum))
