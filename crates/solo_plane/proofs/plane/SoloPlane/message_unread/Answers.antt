use Rattle.std.proofs.Common.{◌≡◌, ℕ, List, [], Option, Result, Ok, Err, subst, sym}
use Rattle.std.specs.Prelude.{IfOk, OnErr}
use Rattle.netlink_codec.specs.Messages.{NetlinkMessage, first_message}
use Rattle.packet_moves.specs.declared.setting.Setting.{Setting}
use Rattle.packet_moves.specs.Messages.{Sends, SendsUnread}
use Rattle.packet_moves.specs.Soundness.{IsSound}
use Rattle.packet_moves.specs.World.{World}
use Rattle.solo_plane.specs.PortView.{world_of}
use Rattle.solo_plane.proofs.plane.SoloPlane.message_unread.Goals as goal

-- what happened stays sound, whether there was memory or not
stays_sound : {E : Type 0} (s : Setting) (port : ℕ) (first : Option (NetlinkMessage × ℕ))
    (old new : World) (result : Result ℕ E) →
    ((before after : List ℕ) (used : ℕ) → Sends s port first old new before after used →
    IsSound s [] old → IsSound s [] new) →
    IfOk result (SendsUnread s port first old new) → OnErr result (new ≡ old) →
    IsSound s [] old → IsSound s [] new
stays_sound s port first old new (Ok used) law sent err sound =
    law [] (sent []).0 used (sent []).1 sound
stays_sound s port first old new (Err e) law sent err sound =
    subst (IsSound s []) (sym err) sound

pub invariant_of-self : goal.invariant_of-self
invariant_of-self c =
    let s = c.args.self.now.setting in
    let old = world_of c.args.self.now.held in
    let new = world_of c.message_unread.new.held in
    let first = first_message c.args.datagram.now in
    let was : IsSound s [] old = record {
      legal = c.legal_at.ensures;
      sound = c.args.self.now.kept.sound.sound;
    } in
    let is =
    stays_sound s c.args.port first old new c.message_unread.result
    (c.histories_stay_sound.ensures.sent s c.args.port first old new)
    c.message_unread.ensures.sent c.message_unread.ensures.err was in
    record {
      kept = record {
        ready = c.message_unread.ensures.ready;
        sound = record { sound = is.sound };
        apart = c.args.self.now.kept.apart;
      };
      none_handed = c.message_unread.ensures.none_left;
    }
