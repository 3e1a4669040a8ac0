-- Notices that a port hasn't received.
use Rattle.std.specs.Prelude.{◌≡◌, ℕ, Bool, false, nat_lt, length, Option, None, Some}
use Rattle.packet_moves.specs.World.{Port}

-- whether a port has one
abbrev pub has_notice : Option Port → Bool
has_notice None = false
has_notice (Some p) = nat_lt 0 (length p.letters)

-- none of these ports has one
abbrev pub AreQuiet : (ℕ → Option Port) → Type 0
AreQuiet ports = (port : ℕ) → has_notice (ports port) ≡ false
