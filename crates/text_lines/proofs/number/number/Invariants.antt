use Rattle.std.proofs.Common.{◌≡◌, drop, ◌<◌, ◌^◌}
use Rattle.text_lines.specs.Digits.{number}
use Rattle.text_lines.proofs.Digits.{onto}
use Rattle.text_lines.proofs.number.number.Given as goal

-- the digits that are left make the number of what was read
abbrev pub invariant-loop-byte : goal.invariant-loop-byte
invariant-loop-byte l =
    (number l.radix l.word ≡ onto l.radix l.number (drop l.byte-index l.word)) × (l.number < 2 ^ 32)
