-- What a plane gives as it ends.
use Rattle.std.specs.Prelude.{ℕ}
use Rattle.histories.specs.declared.log.PortLog.{PortLog}
use Rattle.packet_moves.specs.Logs.{log_of}
use Rattle.solo_plane.specs.declared.held.Ports.{Ports}
use Rattle.solo_plane.specs.PortView.{ports_of}

-- the log of a port that is held
abbrev pub log_at : Ports → ℕ → PortLog
log_at held port = log_of (ports_of held) port
