-- No call of a plane changes the parts of the locks that its pass has.
use Rattle.std.proofs.Common.{◌≡◌, ℕ, List, Option, inr}
use Rattle.std.specs.Prelude.{Result, Ok, Err, IfOk, OnErr}
use Rattle.packet_entry.specs.declared.packet.Card.{Card}
use Rattle.packet_entry.specs.declared.no_memory.NoMemory.{NoMemory}
use Rattle.netlink_codec.specs.Messages.{NetlinkMessage}
use Rattle.histories.specs.declared.log.Did.{Did}
use Rattle.packet_moves.specs.declared.fed.Fed.{Fed}
use Rattle.packet_moves.specs.declared.fed.Refused.{Refused}
use Rattle.packet_moves.specs.declared.setting.Setting.{Setting}
use Rattle.locked_place.specs.Turns.{LooksOn, GoesDownIn}
use Rattle.place_rows.specs.Rows.{Known, TurnsOne}
use Rattle.place_turns.specs.Trails.{Trail, MayLook, parts_of}
use Rattle.place_turns.specs.Moving.{IsFed}
use Rattle.place_turns.specs.Messages.{Sends}

abbrev Same : Trail → Trail → Type 0
Same t u = parts_of u.known ≡ parts_of t.known

-- what the law says of looks, of feeding, of messages and of devices that go down
abbrev pub LooksStay : Type 0
LooksStay = (t u : Trail) → MayLook t u → Same t u

abbrev pub FedStay : Type 0
FedStay = (places : ℕ) (s : Setting) (card : Card) (t u : Trail) (f : Fed) →
    IsFed places s t card u f → Same t u

abbrev pub SentStay : Type 0
SentStay = (places : ℕ) (s : Setting) (port : ℕ) (front : Option (NetlinkMessage × ℕ))
    (dids logged : List Did) (t u : Trail) (before after : List ℕ) (used : ℕ) →
    Sends places s port front dids logged t u before after used → Same t u

abbrev pub DownStay : Type 0
DownStay = (device place count : ℕ) (olds news : List Known) →
    TurnsOne place olds news (λ v w. GoesDownIn device v w count) →
    parts_of news ≡ parts_of olds

-- and so of what each call gives
pub feed_parts : FedStay → LooksStay → (places : ℕ) (s : Setting) (t u : Trail) (card : Card)
    (r : Result Fed Refused) → IfOk r (IsFed places s t card u) → OnErr r (MayLook t u) → Same t u
feed_parts feeds looks places s t u card (Ok f) fed looked = feeds places s card t u f fed
feed_parts feeds looks places s t u card (Err e) fed looked = looks t u looked

pub message_parts : SentStay → LooksStay → (places : ℕ) (s : Setting) (port : ℕ)
    (front : Option (NetlinkMessage × ℕ)) (dids logged : List Did) (t u : Trail)
    (before after : List ℕ) (r : Result ℕ NoMemory) →
    IfOk r (Sends places s port front dids logged t u before after) → OnErr r (MayLook t u) →
    Same t u
message_parts sends looks places s port front dids logged t u before after (Ok used) sent looked =
    sends places s port front dids logged t u before after used sent
message_parts sends looks places s port front dids logged t u before after (Err e) sent looked =
    looks t u looked

pub down_parts : DownStay → LooksStay → (device place : ℕ) (t u : Trail)
    (r : Result ℕ NoMemory) → u.lost ≡ t.lost →
    IfOk r (λ count. TurnsOne place t.known u.known (λ v w. GoesDownIn device v w count)) →
    OnErr r (TurnsOne place t.known u.known LooksOn) → Same t u
down_parts downs looks device place t u (Ok count) same down looked =
    downs device place count t.known u.known down
down_parts downs looks device place t u (Err e) same down looked =
    looks t u (inr (same, (place, looked)))
