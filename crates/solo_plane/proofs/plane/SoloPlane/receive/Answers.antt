use Rattle.std.proofs.Common.{◌≡◌, ℕ, Option, Result, Ok, Err}
use Rattle.std.specs.Prelude.{OnOk, OnErr, option_map}
use Rattle.packet_moves.specs.World.{Port, changed_at, received}
use Rattle.solo_plane.specs.PortView.{ports_of}
use Rattle.solo_plane.proofs.UnchangedLogs.{is_shut, open_same, open_changed, received_keeps}
use Rattle.solo_plane.proofs.plane.SoloPlane.receive.Goals as goal

-- the same ports are open whether there was memory or not
either : {A E : Type 0} (result : Result A E) (port : ℕ) (old new : ℕ → Option Port) →
    OnOk result (new ≡ changed_at port received old) → OnErr result (new ≡ old) → (p : ℕ) →
    option_map is_shut (new p) ≡ option_map is_shut (old p)
either (Ok letter) port old new ok err p =
    open_changed received received_keeps port old new ok p
either (Err none) port old new ok err p = open_same old new err p

pub returns-clause-ports : goal.returns-clause-ports
returns-clause-ports c p =
    either c.receive.result c.args.port (ports_of c.args.self.now.held.ports)
    (ports_of c.receive.new.ports) c.receive.ensures.ports c.receive.ensures.err p
