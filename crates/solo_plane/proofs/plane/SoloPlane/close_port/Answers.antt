use Rattle.solo_plane.proofs.plane.SoloPlane.close_port.Goals as goal

pub invariant_of-self : goal.invariant_of-self
invariant_of-self c =
    record {
      kept = record {
        ready = c.close_port.ensures.ready;
        sound = c.close_port.ensures.sound c.args.self.now.setting c.args.self.now.kept.sound;
        apart = c.args.self.now.kept.apart;
      };
      none_handed = c.args.self.now.none_handed;
    }
