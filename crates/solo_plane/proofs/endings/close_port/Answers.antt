use Rattle.solo_plane.specs.PortView.{world_of}
use Rattle.solo_plane.proofs.endings.close_port.Goals as goal

pub returns-clause-sound : goal.returns-clause-sound
returns-clause-sound c s has =
    let legal = rw c.close_port.ensures.state at c.legal_at-2.ensures in
    record {
      sound = rw c.close_port.ensures.state
          (c.histories_stay_sound.ensures.closed s c.args.port (world_of c.args.held.now) legal
          (record { legal = c.legal_at.ensures; sound = has.sound })).sound;
    }
