use Rattle.netlink_codec.specs.Messages.{first_message}
use Rattle.plane.specs.Planes.{places_of, setting_of}
use Rattle.plane.proofs.CallBalance.{message_balanced, message_logged, some_replies}
use Rattle.plane.proofs.LockParts.{message_parts}
use Rattle.plane.proofs.plane.Plane.message_unread.Goals as goal

pub message_unread-requires-clause-of : goal.message_unread-requires-clause-of
message_unread-requires-clause-of g c κs within = (rw (← c.pass.view_is) at c.requires.pass).of

pub invariant_of-pass : goal.invariant_of-pass
invariant_of-pass g c =
    let places = places_of c.args.self.now in
    let s = setting_of c.args.self.now in
    let port = c.pass.inside.port in
    let front = first_message c.args.datagram.now in
    let it = some_replies places s port front _ _ _ _ c.message_unread.result
    c.message_unread.ensures.sent in (
      record {
        logged = record {
          heard = message_logged places s port front _ _ _ _ _ _ _ c.message_unread.result it.1
              c.message_unread.ensures.same c.pass.invariant.0.logged.heard;
        };
        closable = c.message_unread.ensures.room;
      },
      c.message_unread.ensures.timely c.pass.inside.receiver.received c.pass.invariant.1,
    )

pub returns-clause-pass : goal.returns-clause-pass
returns-clause-pass g c =
    let is = rw (← c.pass.view_is) at c.requires.pass in
    let places = places_of c.args.self.now in
    let s = setting_of c.args.self.now in
    let port = c.pass.inside.port in
    let front = first_message c.args.datagram.now in
    let it = some_replies places s port front _ _ _ _ c.message_unread.result
    c.message_unread.ensures.sent in
    record {
      of = c.message_unread.ensures.of;
      balanced = message_balanced c.passes_stay_balanced.ensures.sent
          c.passes_stay_balanced.ensures.looked places s port front _ _ _ _ _ _
          c.message_unread.result it.1 c.message_unread.ensures.looked is.balanced;
      mailbox = is.mailbox;
      alone = is.alone;
      unmailed = is.unmailed;
    }

pub returns-clause-parts : goal.returns-clause-parts
returns-clause-parts g c =
    let places = places_of c.args.self.now in
    let s = setting_of c.args.self.now in
    let port = c.pass.inside.port in
    let front = first_message c.args.datagram.now in
    let it = some_replies places s port front _ _ _ _ c.message_unread.result
    c.message_unread.ensures.sent in
    rw (← c.pass.view_is)
    (message_parts c.passes_keep_their_parts.ensures.sent
    c.passes_keep_their_parts.ensures.looked places s port front _ _ _ _ _ _
    c.message_unread.result it.1 c.message_unread.ensures.looked)
