-- Messages of a port: what each makes of its pass, how it is answered, and how it is logged.
use Rattle.std.specs.Prelude.{◌≡◌, ℕ, List, [], ◌∷◌, ◌++◌, length, Option, Some, None}
use Rattle.packet_entry.specs.declared.packet.Card.{Card}
use Rattle.hook_chain.specs.declared.chain.Decision.{Decision}
use Rattle.hook_chain.specs.Route.{onward_of}
use Rattle.netlink_codec.specs.Messages.{NetlinkMessage}
use Rattle.netlink_codec.specs.Acknowledgements.{answer}
use Rattle.nfqa_msgs.specs.declared.request.Request.{Request}
use Rattle.nfqa_msgs.specs.declared.request.Decoded.{Decoded}
use Rattle.nfqa_msgs.specs.declared.request.Decoded.TheVariants.{Nothing, Refused, Asked}
use Rattle.nfqa_msgs.specs.RequestReading.{decoded}
use Rattle.queue_core.specs.declared.event.Event.TheVariants.{Ask}
use Rattle.queue_core.specs.declared.event.Reply.TheVariants.{Answer}
use Rattle.histories.specs.declared.entry.Entry.{Entry}
use Rattle.histories.specs.declared.log.Did.{Did}
use Rattle.histories.specs.declared.log.Did.TheVariants.{Sent}
use Rattle.histories.specs.Happenings.{queue_of, all_handed}
use Rattle.histories.specs.States.{step_of, entry_of}
use Rattle.histories.specs.Places.{place_for}
use Rattle.packet_moves.specs.declared.fed.Fed.{Fed}
use Rattle.packet_moves.specs.declared.setting.Setting.{Setting}
use Rattle.packet_moves.specs.Calls.{next_call}
use Rattle.packet_moves.specs.Messages.{words_of, answered}
use Rattle.place_turns.specs.Trails.{Trail, StepsAt}
use Rattle.place_turns.specs.Moving.{Carries}

-- one packet is moved on to its rest or end, and then the others are
pub record CarriesFirst (places : ℕ) (s : Setting) (h : Card × Decision)
    (others : Trail → Trail → Type 0) (t u : Trail) : Type 0 where
  pub memory : ℕ
  pub between : Trail
  pub ended : Fed
  pub first : Carries memory places s t h.0 (onward_of s.tables s.key h.0 h.1) between ended
  pub rest : others between u

-- packets that a request let go on, one after the other, each to its rest or end
abbrev pub CarriesAll : ℕ → Setting → List (Card × Decision) → Trail → Trail → Type 0
CarriesAll places s [] t u = u ≡ t
CarriesAll places s (h ∷ hs) t u = CarriesFirst places s h (CarriesAll places s hs) t u

-- A request is carried out: in a turn at its queue's place its entry is appended, and the packets
-- that it let go on are moved on in their order. Where it let none go on, nothing more happens.
pub record IsAsked (places : ℕ) (s : Setting) (port call : ℕ) (request : Request) (old new : Trail)
    (errno : ℕ) : Type 0 where
  pub found : List Entry
  pub between : Trail
  pub turn : StepsAt (place_for (queue_of request) places) old between found
      (found ++ entry_of found (queue_of request) (Ask port call request) ∷ [])
  pub reply : (step_of found (queue_of request) (Ask port call request)).reply
      ≡ Answer errno (length (step_of found (queue_of request) (Ask port call request)).left)
  pub moved : CarriesAll places s
      (all_handed (step_of found (queue_of request) (Ask port call request)).left) between new

-- a message is carried out, by what it is decoded to: one that asks for nothing is a success, and a
-- refused one has its errno
abbrev pub CarriesOut : ℕ → Setting → ℕ → ℕ → Decoded → Trail → Trail → ℕ → Type 0
CarriesOut places s port call Nothing old new errno = (errno ≡ 0) × (new ≡ old)
CarriesOut places s port call (Refused refusal) old new errno = (errno ≡ refusal) × (new ≡ old)
CarriesOut places s port call (Asked request) old new errno =
    IsAsked places s port call request old new errno

-- a port sends a message: it is carried out, logged, and acknowledged where that is due
pub record IsSent (places : ℕ) (s : Setting) (port : ℕ) (m : NetlinkMessage)
    (dids logged : List Did) (old new : Trail) (before after : List ℕ) : Type 0 where
  pub errno : ℕ
  pub carried_out : CarriesOut places s port (next_call dids) (decoded m) old new errno
  pub noted : logged ≡ dids
      ++ Sent (next_call dids) (words_of port (next_call dids) m.whole (decoded m))
      (answered m errno) ∷ []
  pub replied : after ≡ before ++ answer m errno

-- it sends the first message of some bytes, where one stands there: how many bytes that uses
abbrev pub Sends : ℕ → Setting → ℕ → Option (NetlinkMessage × ℕ) → List Did → List Did → Trail →
    Trail → List ℕ → List ℕ → ℕ → Type 0
Sends places s port None dids logged old new before after used =
    (used ≡ 0) × (new ≡ old) × (logged ≡ dids) × (after ≡ before)
Sends places s port (Some (m, n)) dids logged old new before after used =
    (used ≡ n) × IsSent places s port m dids logged old new before after

-- the same, where nobody reads what is replied
abbrev pub SendsUnread : ℕ → Setting → ℕ → Option (NetlinkMessage × ℕ) → List Did → List Did →
    Trail → Trail → ℕ → Type 0
SendsUnread places s port first dids logged old new used =
    (before : List ℕ) → (after : List ℕ)
    × Sends places s port first dids logged old new before after used
