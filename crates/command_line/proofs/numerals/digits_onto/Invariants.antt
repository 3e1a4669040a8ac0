use Rattle.std.proofs.Common.{◌≡◌, drop}
use Rattle.command_line.specs.Numerals.{digits_onto}
use Rattle.command_line.proofs.numerals.digits_onto.Given as goal

-- the digits that are left make the same number of what was read
abbrev pub invariant-loop-digit : goal.invariant-loop-digit
invariant-loop-digit l =
    digits_onto l.before l.digits ≡ digits_onto l.number (drop l.digit-index l.digits)
