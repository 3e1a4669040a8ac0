use Rattle.std.proofs.Common.{refl}
use Rattle.packet_moves.specs.declared.setting.Setting.{Setting}
use Rattle.solo_plane.specs.PortPlaces.{AreApart}
use Rattle.solo_plane.proofs.DistinctPorts.{apart_so}
use Rattle.solo_plane.proofs.plane.SoloPlane.new.Goals as goal

pub invariant_of-result : goal.invariant_of-result
invariant_of-result c =
    let s : Setting = record { tables = c.args.tables; key = c.args.key; mail = c.args.mail } in
    let apart : AreApart c.args.ports.now = apart_so c.args.ports.now c.requires.apart in
    record {
      kept = record {
        ready = rw c.new.ensures (record {
          only = refl;
          first = refl;
          no_offer = refl;
          standing = refl;
        });
        sound = record {
          sound = rw (c.new.ensures, c.new-2.ensures.items, c.new-3.ensures.items)
              (c.histories_stay_sound.ensures.begins s c.args.ports.now).sound;
        };
        apart = rw c.in_ok-order.ensures.items apart;
      };
      none_handed = c.new-4.ensures;
    }

pub open_ports-requires : goal.open_ports-requires
open_ports-requires c = apart_so c.args.ports.now c.requires.apart
