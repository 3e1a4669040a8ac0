use Rattle.solo_plane.specs.PortView.{world_of}
use Rattle.solo_plane.proofs.endings.device_down.Goals as goal

pub returns-clause-sound : goal.returns-clause-sound
returns-clause-sound c s has =
    let legal = rw c.in_ok-destroyed.ensures.state at c.legal_at-2.ensures in
    record {
      sound = rw c.in_ok-destroyed.ensures.state
          (c.histories_stay_sound.ensures.down s c.args.device (world_of c.args.held.now) legal
          (record { legal = c.legal_at.ensures; sound = has.sound })).sound;
    }
