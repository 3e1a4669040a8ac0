-- The logs of a run, one for each port.
use Rattle.std.specs.Prelude.{◌≡◌, ℕ, List, [], ◌∷◌, map, refl}
use Rattle.std.proofs.Common.{ap}
use Rattle.histories.specs.declared.log.PortLog.{PortLog}
use Rattle.packet_moves.specs.World.{World}
use Rattle.packet_moves.specs.Logs.{logs_in}

-- the ports of the logs are those that the logs were made for
pub ports_of_logs : (w : World) (order : List ℕ) →
    map (λ (l : PortLog). l.port) (logs_in order w) ≡ order
ports_of_logs w [] = refl
ports_of_logs w (p ∷ ps) = ap (λ (qs : List ℕ). p ∷ qs) (ports_of_logs w ps)
