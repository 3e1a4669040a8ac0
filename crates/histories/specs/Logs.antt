-- What a port's log says that it did.
use Rattle.std.specs.Prelude.{Bool, true, false}
use Rattle.histories.specs.declared.log.Did.{Did}
use Rattle.histories.specs.declared.log.Did.TheVariants.{Received, Sent, Closed}

-- it received a notice
abbrev pub is_received : Did → Bool
is_received (Received queue number visit) = true
is_received (Sent call ask answer) = false
is_received Closed = false
