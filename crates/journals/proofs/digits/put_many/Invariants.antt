use Rattle.std.proofs.Common.{◌≡◌, ◌*◌, ◌≤◌, length, take, ◌-◌}
use Rattle.hex.specs.Hex.{encode_lower}
use Rattle.journals.proofs.digits.put_many.Given as goal

-- the digits of the first bytes are in place
abbrev pub invariant-loop-at : goal.invariant-loop-at
invariant-loop-at l =
    (l.at ≤ length l.bytes) × (take (l.at * 2) l.to ≡ encode_lower (take l.at l.bytes))

abbrev pub decreases-loop-at : goal.decreases-loop-at
decreases-loop-at l = length l.bytes - l.at
