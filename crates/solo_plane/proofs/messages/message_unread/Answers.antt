use Rattle.std.proofs.Common.{ℕ, List, ◌++◌, Option, refl, subst}
use Rattle.netlink_codec.specs.Acknowledgements.{answer}
use Rattle.netlink_codec.specs.Messages.{NetlinkMessage, message_of}
use Rattle.packet_moves.specs.Messages.{Sends}
use Rattle.packet_moves.specs.World.{World}
use Rattle.solo_plane.specs.PortView.{world_of}
use Rattle.solo_plane.proofs.messages.message_unread.Goals as goal

pub returns-in_ok-_errno-in-Some-clause-sent : goal.returns-in_ok-_errno-in-Some-clause-sent
returns-in_ok-_errno-in-Some-clause-sent c before =
    let old : World = world_of c.args.held.now in
    let new : World = world_of c.send_unread.new.held in
    let after : List ℕ =
    before ++ answer (message_of c.in-Some.message) c.in_ok-_errno-in-Some._errno in
    let P : Option (NetlinkMessage × ℕ) → Type 0 =
    λ first. Sends c.args.setting.now c.args.port first old new before after c.in-Some.used in (
      after,
      subst P c.in-Some.ensures.reading (refl, c.in_ok-_errno-in-Some.ensures.sent before),
    )

pub returns-in-None-clause-sent : goal.returns-in-None-clause-sent
returns-in-None-clause-sent c before =
    let old : World = world_of c.args.held.now in
    let P : Option (NetlinkMessage × ℕ) → Type 0 =
    λ first. Sends c.args.setting.now c.args.port first old old before before 0 in
    (before, subst P c.in-None.ensures.reading (refl, refl, refl))
