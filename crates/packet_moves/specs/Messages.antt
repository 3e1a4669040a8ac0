-- Messages of a port: what each makes of a plane, how it is answered, and how it is logged.
use Rattle.std.specs.Prelude.{◌≡◌, ℕ, List, [], ◌∷◌, ◌++◌, length, Option, Some, None}
use Rattle.std.specs.Prelude.{if◌then◌else◌}
use Rattle.std.specs.Str.{bytes_eq}
use Rattle.netlink_codec.specs.Messages.{NetlinkMessage}
use Rattle.netlink_codec.specs.Acknowledgements.{answer, is_unanswered}
use Rattle.nfqa_msgs.specs.declared.request.Request.{Request}
use Rattle.nfqa_msgs.specs.declared.request.Decoded.{Decoded}
use Rattle.nfqa_msgs.specs.declared.request.Decoded.TheVariants.{Nothing, Refused, Asked}
use Rattle.nfqa_msgs.specs.RequestReading.{decoded}
use Rattle.nfqa_msgs.specs.RequestWriting.{spelling}
use Rattle.queue_core.specs.declared.event.Event.TheVariants.{Ask}
use Rattle.queue_core.specs.declared.event.Reply.TheVariants.{Answer}
use Rattle.queue_core.specs.Step.{Stepped}
use Rattle.histories.specs.declared.log.AskWords.{AskWords}
use Rattle.histories.specs.declared.log.AskWords.TheVariants.{Plain, Raw}
use Rattle.histories.specs.declared.log.Did.TheVariants.{Sent}
use Rattle.histories.specs.States.{step_of, entry_of}
use Rattle.histories.specs.Happenings.{queue_of, all_handed}
use Rattle.packet_moves.specs.declared.setting.Setting.{Setting}
use Rattle.packet_moves.specs.Calls.{next_call}
use Rattle.packet_moves.specs.World.{World, Port, at_port, having_done}
use Rattle.packet_moves.specs.Moving.{CarriesAll}

-- How a message is logged: in words where its own bytes are the one spelling of what it asks, with
-- the sender's port and the message's number, and else as these bytes.
abbrev pub words_of : ℕ → ℕ → List ℕ → Decoded → AskWords
words_of port call whole Nothing = Raw whole
words_of port call whole (Refused errno) = Raw whole
words_of port call whole (Asked request) =
    if bytes_eq whole (spelling port call request) then Plain request else Raw whole

-- the errno of its acknowledgement, where there is one
abbrev pub answered : NetlinkMessage → ℕ → Option ℕ
answered m errno = if is_unanswered m errno then None else Some errno

-- the number of a port's next message
abbrev pub call_at : Option Port → ℕ
call_at None = next_call []
call_at (Some p) = next_call p.dids

-- a request's step, and the world once its entry stands
abbrev pub asking : World → ℕ → ℕ → Request → Stepped
asking w port call request = step_of w.entries (queue_of request) (Ask port call request)

abbrev pub with_ask : World → ℕ → ℕ → Request → World
with_ask w port call request =
    record w {
      entries = w.entries
          ++ entry_of w.entries (queue_of request) (Ask port call request) ∷ [];
    }

-- A request is carried out: its entry stands, and the packets that it let go on are moved on in
-- their order.
pub record IsAsked (s : Setting) (port call : ℕ) (request : Request) (old new : World)
    (errno : ℕ) : Type 0 where
  pub reply : (asking old port call request).reply
      ≡ Answer errno (length (asking old port call request).left)
  pub moved : CarriesAll s (all_handed (asking old port call request).left)
      (with_ask old port call request) new

-- a message is carried out, by what it is decoded to: one that asks for nothing is a success, and a
-- refused one has its errno
abbrev pub CarriesOut : Setting → ℕ → ℕ → Decoded → World → World → ℕ → Type 0
CarriesOut s port call Nothing old new errno = (errno ≡ 0) × (new ≡ old)
CarriesOut s port call (Refused refusal) old new errno = (errno ≡ refusal) × (new ≡ old)
CarriesOut s port call (Asked request) old new errno = IsAsked s port call request old new errno

-- a port sends a message: it is carried out, logged, and acknowledged where that is due
pub record IsSent (s : Setting) (port : ℕ) (m : NetlinkMessage) (old new : World)
    (before after : List ℕ) : Type 0 where
  pub errno : ℕ
  pub between : World
  pub carried_out : CarriesOut s port (call_at (old.ports port)) (decoded m) old between errno
  pub logged : new ≡ at_port port
      (having_done (Sent (call_at (old.ports port))
      (words_of port (call_at (old.ports port)) m.whole (decoded m)) (answered m errno))) between
  pub replied : after ≡ before ++ answer m errno

-- it sends the first message of some bytes, where one stands there: how many bytes that uses
abbrev pub Sends : Setting → ℕ → Option (NetlinkMessage × ℕ) → World → World → List ℕ → List ℕ →
    ℕ → Type 0
Sends s port None old new before after used = (used ≡ 0) × (new ≡ old) × (after ≡ before)
Sends s port (Some (m, n)) old new before after used =
    (used ≡ n) × IsSent s port m old new before after

-- the same, where nobody reads what is replied
abbrev pub SendsUnread : Setting → ℕ → Option (NetlinkMessage × ℕ) → World → World → ℕ → Type 0
SendsUnread s port first old new used =
    (before : List ℕ) → (after : List ℕ) × Sends s port first old new before after used
