-- A message that was sent, from its parts.
use Rattle.std.proofs.Common.{◌≡◌, ℕ, List, ◌++◌, Option, Bool, refl, sym, ap, ◌∙◌}
use Rattle.std.specs.Prelude.{Result, Ok, Err, OnOk, if◌then◌else◌}
use Rattle.std.proofs.lemmas.Slice.Eq.{bytes_eq-Decides}
use Rattle.netlink_codec.specs.Messages.{NetlinkMessage}
use Rattle.netlink_codec.specs.Acknowledgements.{answer}
use Rattle.nfqa_msgs.specs.declared.request.Request.{Request}
use Rattle.nfqa_msgs.specs.declared.request.Decoded.{Decoded}
use Rattle.nfqa_msgs.specs.declared.request.Decoded.TheVariants.{Asked}
use Rattle.nfqa_msgs.specs.RequestReading.{decoded}
use Rattle.nfqa_msgs.specs.RequestWriting.{spelled, spelling}
use Rattle.histories.specs.declared.log.AskWords.{AskWords}
use Rattle.histories.specs.declared.log.AskWords.TheVariants.{Plain, Raw}
use Rattle.histories.specs.declared.log.Did.TheVariants.{Sent}
use Rattle.packet_moves.specs.declared.setting.Setting.{Setting}
use Rattle.packet_moves.specs.World.{World, at_port, having_done}
use Rattle.packet_moves.specs.Messages.{CarriesOut, IsSent, answered, call_at, words_of}

pub on_ok : {X E P : Type 0} (r : Result X E) → P → OnOk r P
on_ok (Ok x) holds = holds
on_ok (Err e) holds = tt

pub sent_so : (s : Setting) (port : ℕ) (m : NetlinkMessage) (old between new : World)
    (before after : List ℕ) (errno call : ℕ) (d : Decoded) (words : AskWords)
    (given : Option ℕ) → call ≡ call_at (old.ports port) → d ≡ decoded m →
    words ≡ words_of port call m.whole d → given ≡ answered m errno →
    call_at (between.ports port) ≡ call_at (old.ports port) →
    CarriesOut s port call d old between errno →
    new ≡ at_port port (having_done (Sent (call_at (between.ports port)) words given)) between →
    after ≡ before ++ answer m errno → IsSent s port m old new before after
sent_so s port m old between new before after errno call d words given call_is d_is
    words_is given_is stays carried logged replied =
    record {
      errno = errno;
      between = between;
      carried_out = rw (call_is, d_is) at carried;
      logged = rw (stays, words_is, call_is, d_is, given_is) at logged;
      replied = replied;
    }

-- a request's spelling is logged in words
spelled_words : (port call : ℕ) (request : Request) →
    words_of port call (spelled port call request).whole (Asked request) ≡ Plain request
unfolding spelling
spelled_words port call request =
    let text : List ℕ = spelling port call request in
    ap (λ (same : Bool). if same then Plain request else Raw text)
    ((bytes_eq-Decides text text).1 refl)

plain : Request → AskWords
plain request = Plain request

pub in_words : (port call number : ℕ) (request logged : Request) → call ≡ number →
    logged ≡ request →
    Plain logged ≡ words_of port call (spelled port number request).whole (Asked request)
unfolding plain
in_words port call number request logged call_is same =
    ap plain same
    ∙ sym (spelled_words port number request)
    ∙ ap (λ (n : ℕ). words_of port n (spelled port number request).whole (Asked request))
    (sym call_is)
