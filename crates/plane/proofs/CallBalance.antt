-- What each call of a plane leaves: its pass is balanced, and a port's log goes with its letters.
use Rattle.std.proofs.Common.{◌≡◌, ℕ, List, [], ◌∷◌, ◌++◌, sym, ap, ◌∙◌}
use Rattle.std.proofs.Common.{subst, append-nil, Option, Some, None}
use Rattle.std.specs.Prelude.{Result, Ok, Err, IfOk, OnOk, OnErr, filter, map}
use Rattle.std.proofs.lemmas.List.{map-append}
use Rattle.std.proofs.lemmas.List.Elements.{filter-append}
use Rattle.mailbox.specs.declared.view.Post.{Post}
use Rattle.packet_entry.specs.declared.packet.Card.{Card}
use Rattle.packet_entry.specs.declared.no_memory.NoMemory.{NoMemory}
use Rattle.netlink_codec.specs.Messages.{NetlinkMessage}
use Rattle.histories.specs.declared.log.Did.{Did}
use Rattle.histories.specs.declared.log.Did.TheVariants.{Closed}
use Rattle.packet_moves.specs.declared.fed.Fed.{Fed}
use Rattle.packet_moves.specs.declared.fed.Refused.{Refused}
use Rattle.packet_moves.specs.declared.setting.Setting.{Setting}
use Rattle.place_rows.specs.Shares.{IsBalanced}
use Rattle.place_turns.specs.Trails.{Trail, MayLook}
use Rattle.place_turns.specs.Moving.{IsFed}
use Rattle.place_turns.specs.Messages.{Sends, SendsUnread}
use Rattle.histories.specs.Logs.{is_received}
use Rattle.plane.specs.Passes.{did_take}

-- what the law says of feeding, of messages and of looks
abbrev pub FedKeeps : Type 0
FedKeeps = (places : ℕ) (s : Setting) (entered : List Card) (card : Card) (old new : Trail)
    (f : Fed) → card.visit ≡ 0 → IsFed places s old card new f →
    IsBalanced s entered old.known old.lost →
    IsBalanced s (entered ++ card ∷ []) new.known new.lost

abbrev pub SentKeeps : Type 0
SentKeeps = (places : ℕ) (s : Setting) (entered : List Card) (port : ℕ)
    (front : Option (NetlinkMessage × ℕ)) (dids logged : List Did) (old new : Trail)
    (before after : List ℕ) (used : ℕ) →
    Sends places s port front dids logged old new before after used →
    IsBalanced s entered old.known old.lost → IsBalanced s entered new.known new.lost

abbrev pub LooksKeep : Type 0
LooksKeep = (s : Setting) (entered : List Card) (old new : Trail) → MayLook old new →
    IsBalanced s entered old.known old.lost → IsBalanced s entered new.known new.lost

-- ---- feeding

pub feed_balanced : FedKeeps → LooksKeep → (places : ℕ) (s : Setting) (old new : Trail)
    (was fed : List Card) (card : Card) (r : Result Fed Refused) → card.visit ≡ 0 →
    IfOk r (IsFed places s old card new) → OnOk r (fed ≡ was ++ card ∷ []) →
    OnErr r (MayLook old new) → OnErr r (fed ≡ was) →
    IsBalanced s was old.known old.lost → IsBalanced s fed new.known new.lost
feed_balanced keeps looks places s old new was fed card (Ok f) fresh moved noted looked none is =
    subst (λ (l : List Card). IsBalanced s l new.known new.lost) (sym noted)
    (keeps places s was card old new f fresh moved is)
feed_balanced keeps looks places s old new was fed card (Err e) fresh moved noted looked none is =
    subst (λ (l : List Card). IsBalanced s l new.known new.lost) (sym none)
    (looks s was old new looked is)

-- ---- messages

pub message_balanced : SentKeeps → LooksKeep → (places : ℕ) (s : Setting) (port : ℕ)
    (front : Option (NetlinkMessage × ℕ)) (dids logged : List Did) (old new : Trail)
    (before after : List ℕ) (r : Result ℕ NoMemory) →
    IfOk r (Sends places s port front dids logged old new before after) →
    OnErr r (MayLook old new) →
    IsBalanced s [] old.known old.lost → IsBalanced s [] new.known new.lost
message_balanced keeps looks places s port front dids logged old new before after (Ok used) sent
    looked is =
    keeps places s [] port front dids logged old new before after used sent is
message_balanced keeps looks places s port front dids logged old new before after (Err e) sent
    looked is = looks s [] old new looked is

sends_logged : (places : ℕ) (s : Setting) (port : ℕ) (front : Option (NetlinkMessage × ℕ))
    (dids logged received : List Did) (old new : Trail) (before after : List ℕ) (used : ℕ) →
    Sends places s port front dids logged old new before after used →
    filter is_received dids ≡ received → filter is_received logged ≡ received
sends_logged places s port None dids logged received old new before after used sent is =
    ap (filter is_received) sent.2 ∙ is
sends_logged places s port (Some (m, n)) dids logged received old new before after used sent is =
    ap (filter is_received) sent.1.noted
    ∙ filter-append is_received dids _
    ∙ append-nil (filter is_received dids) ∙ is

pub message_logged : (places : ℕ) (s : Setting) (port : ℕ) (front : Option (NetlinkMessage × ℕ))
    (dids logged received : List Did) (old new : Trail) (before after : List ℕ)
    (r : Result ℕ NoMemory) →
    IfOk r (Sends places s port front dids logged old new before after) →
    OnErr r (logged ≡ dids) →
    filter is_received dids ≡ received → filter is_received logged ≡ received
message_logged places s port front dids logged received old new before after (Ok used) sent same
    is =
    sends_logged places s port front dids logged received old new before after used sent is
message_logged places s port front dids logged received old new before after (Err e) sent same is =
    ap (filter is_received) same ∙ is

-- what is sent where nobody reads the replies is sent with some replies
pub some_replies : (places : ℕ) (s : Setting) (port : ℕ) (front : Option (NetlinkMessage × ℕ))
    (dids logged : List Did) (old new : Trail) (r : Result ℕ NoMemory) →
    IfOk r (SendsUnread places s port front dids logged old new) →
    (after : List ℕ) × IfOk r (Sends places s port front dids logged old new [] after)
some_replies places s port front dids logged old new (Ok used) sent = ((sent []).0, (sent []).1)
some_replies places s port front dids logged old new (Err e) sent = ([], tt)

-- ---- closing

pub closed_logged : (dids received : List Did) → filter is_received dids ≡ received →
    filter is_received (dids ++ Closed ∷ []) ≡ received
closed_logged dids received is =
    filter-append is_received dids (Closed ∷ []) ∙ append-nil (filter is_received dids) ∙ is

-- a letter that is logged was received
pub received_logged : (dids : List Did) (heard : List Post) (p : Post) →
    filter is_received dids ≡ map did_take heard →
    filter is_received (dids ++ did_take p ∷ []) ≡ map did_take (heard ++ p ∷ [])
received_logged dids heard p is =
    filter-append is_received dids (did_take p ∷ [])
    ∙ ap (λ (l : List Did). l ++ did_take p ∷ []) is
    ∙ sym (map-append did_take heard (p ∷ []))
