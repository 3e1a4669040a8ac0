-- A message whose replies nobody reads.
use Rattle.std.proofs.Common.{◌≡◌, [], ℕ, List, Option, ap}
use Rattle.std.specs.Prelude.{Err, IfOk, Ok, OnErr, Result}
use Rattle.netlink_codec.specs.Messages.{NetlinkMessage}
use Rattle.histories.specs.declared.log.Did.{Did}
use Rattle.packet_moves.specs.declared.setting.Setting.{Setting}
use Rattle.run_parts.specs.Log.{received_count}
use Rattle.place_turns.specs.Messages.{Sends, SendsUnread}
use Rattle.place_turns.specs.Trails.{Trail}
use Rattle.live_work.proofs.SentMessages.{count_sent}

-- it is no notice, also where memory ran out, so that nothing was sent
pub counted_unread : {E : Type 0} (places : ℕ) (s : Setting) (port : ℕ)
    (front : Option (NetlinkMessage × ℕ)) (dids logged : List Did) (old new : Trail)
    (r : Result ℕ E) → IfOk r (SendsUnread places s port front dids logged old new) →
    OnErr r (logged ≡ dids) → received_count logged ≡ received_count dids
counted_unread places s port front dids logged old new (Ok used) sent none =
    count_sent places s port front dids logged old new [] (sent []).0 used (sent []).1
counted_unread places s port front dids logged old new (Err e) sent none =
    ap (λ (l : List Did). received_count l) none

-- where it was sent, it was sent with replies that begin nowhere
pub if_unread : {E : Type 0} (places : ℕ) (s : Setting) (port : ℕ)
    (front : Option (NetlinkMessage × ℕ)) (dids logged : List Did) (old new : Trail)
    (r : Result ℕ E) (Q : ℕ → Type 0) →
    ((used : ℕ) (after : List ℕ) →
    Sends places s port front dids logged old new [] after used → Q used) →
    IfOk r (SendsUnread places s port front dids logged old new) → IfOk r Q
if_unread places s port front dids logged old new (Ok used) Q so sent =
    so used (sent []).0 (sent []).1
if_unread places s port front dids logged old new (Err e) Q so sent = tt
