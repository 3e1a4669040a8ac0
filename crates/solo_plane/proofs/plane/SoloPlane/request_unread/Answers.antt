use Rattle.std.proofs.Common.{◌≡◌, ℕ, List, [], Option, Some, Result, Ok, Err, refl, subst, sym}
use Rattle.std.specs.Prelude.{OnErr, OnOk}
use Rattle.netlink_codec.specs.Messages.{NetlinkMessage}
use Rattle.nfqa_msgs.specs.declared.request.Request.{Request}
use Rattle.nfqa_msgs.specs.RequestWriting.{spelled}
use Rattle.packet_moves.specs.declared.setting.Setting.{Setting}
use Rattle.packet_moves.specs.Messages.{Sends, call_at}
use Rattle.packet_moves.specs.Soundness.{IsSound}
use Rattle.packet_moves.specs.World.{World}
use Rattle.solo_plane.specs.PortView.{world_of}
use Rattle.solo_plane.specs.Requests.{SendsRequest}
use Rattle.solo_plane.proofs.plane.SoloPlane.request_unread.Goals as goal

-- what happened stays sound, whether there was memory or not
stays_sound : {X E : Type 0} (s : Setting) (port : ℕ) (request : Request)
    (old new : World) (result : Result X E) →
    ((first : Option (NetlinkMessage × ℕ)) (before after : List ℕ) (used : ℕ) →
    Sends s port first old new before after used → IsSound s [] old → IsSound s [] new) →
    OnOk result (SendsRequest s port request old new) → OnErr result (new ≡ old) →
    IsSound s [] old → IsSound s [] new
stays_sound s port request old new (Ok done) law sent err sound =
    let m : NetlinkMessage = spelled port (call_at (old.ports port)) request in
    law (Some (m, 0)) [] (sent []).0 0 (refl, (sent []).1) sound
stays_sound s port request old new (Err e) law sent err sound =
    subst (IsSound s []) (sym err) sound

pub invariant_of-self : goal.invariant_of-self
invariant_of-self c =
    let s = c.args.self.now.setting in
    let old = world_of c.args.self.now.held in
    let new = world_of c.request_unread.new.held in
    let was : IsSound s [] old = record {
      legal = c.legal_at.ensures;
      sound = c.args.self.now.kept.sound.sound;
    } in
    let is =
    stays_sound s c.args.port c.args.request old new c.request_unread.result
    (λ first. c.histories_stay_sound.ensures.sent s c.args.port first old new)
    c.request_unread.ensures.sent c.request_unread.ensures.err was in
    record {
      kept = record {
        ready = c.request_unread.ensures.ready;
        sound = record { sound = is.sound };
        apart = c.args.self.now.kept.apart;
      };
      none_handed = c.request_unread.ensures.none_left;
    }
