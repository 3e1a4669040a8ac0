use Rattle.netlink_codec.specs.Messages.{first_message}
use Rattle.plane.specs.Planes.{places_of, setting_of}
use Rattle.plane.proofs.CallBalance.{message_balanced, message_logged}
use Rattle.plane.proofs.LockParts.{message_parts}
use Rattle.plane.proofs.plane.Plane.message.Goals as goal

pub message-requires-clause-of : goal.message-requires-clause-of
message-requires-clause-of g c κs within = (rw (← c.pass.view_is) at c.requires.pass).of

pub invariant_of-pass : goal.invariant_of-pass
invariant_of-pass g c = (
  record {
    logged = record {
      heard = message_logged (places_of c.args.self.now) (setting_of c.args.self.now)
          c.pass.inside.port (first_message c.args.datagram.now) _ _ _ _ _ _ _ c.message.result
          c.message.ensures.sent c.message.ensures.same c.pass.invariant.0.logged.heard;
    };
    closable = c.message.ensures.room;
  },
  c.message.ensures.timely c.pass.inside.receiver.received c.pass.invariant.1,
)

pub returns-clause-pass : goal.returns-clause-pass
returns-clause-pass g c =
    let is = rw (← c.pass.view_is) at c.requires.pass in
    record {
      of = c.message.ensures.of;
      balanced = message_balanced c.passes_stay_balanced.ensures.sent
          c.passes_stay_balanced.ensures.looked (places_of c.args.self.now)
          (setting_of c.args.self.now) c.pass.inside.port (first_message c.args.datagram.now)
          _ _ _ _ _ _ c.message.result c.message.ensures.sent c.message.ensures.looked is.balanced;
      mailbox = is.mailbox;
      alone = is.alone;
      unmailed = is.unmailed;
    }

pub returns-clause-parts : goal.returns-clause-parts
returns-clause-parts g c =
    rw (← c.pass.view_is)
    (message_parts c.passes_keep_their_parts.ensures.sent
    c.passes_keep_their_parts.ensures.looked (places_of c.args.self.now) (setting_of c.args.self.now) c.pass.inside.port
    (first_message c.args.datagram.now) _ _ _ _ _ _ c.message.result c.message.ensures.sent
    c.message.ensures.looked)
