-- How a message was logged: in words exactly where its own bytes are a request's one spelling.
use Rattle.std.proofs.Common.{◌≡◌, ◌∙◌, ◌<◌, ◌^◌, ◌++◌, ℕ, List, [], refl, sym, ap}
use Rattle.std.proofs.Common.{append-nil}
use Rattle.std.proofs.Common.{Bool, true, false, Option, Some, length, cond}
use Rattle.std.specs.Prelude.{option_map, unwrap_or}
use Rattle.std.specs.Str.{bytes_eq}
use Rattle.std.proofs.lemmas.Slice.Eq.{bytes_eq-Decides}
use Rattle.netlink_codec.specs.Messages.{NetlinkMessage, Front, first_message}
use Rattle.nfqa_msgs.specs.declared.request.Request.{Request}
use Rattle.nfqa_msgs.specs.declared.request.Decoded.{Decoded}
use Rattle.nfqa_msgs.specs.declared.request.Decoded.TheVariants.{Nothing, Refused, Asked}
use Rattle.nfqa_msgs.specs.RequestReading.{decoded}
use Rattle.nfqa_msgs.specs.RequestWriting.{FitsRequest, spelled, spelling}
use Rattle.histories.specs.declared.log.AskWords.{AskWords}
use Rattle.histories.specs.declared.log.AskWords.TheVariants.{Plain, Raw}
use Rattle.packet_moves.specs.Messages.{words_of}
use Rattle.log_audit.specs.Telling.{IsOwn}

-- ---- words

abbrev request_in : AskWords → Request → Request
request_in (Plain r) other = r
request_in (Raw bytes) other = other

abbrev bytes_in : AskWords → List ℕ → List ℕ
bytes_in (Plain r) other = other
bytes_in (Raw bytes) other = bytes

-- what is logged in words is asked, and spelled so
pub words_are_plain : (port call : ℕ) (whole : List ℕ) (d : Decoded) (request : Request) →
    words_of port call whole d ≡ Plain request →
    (d ≡ Asked request) × (whole ≡ spelling port call request)
words_are_plain port call whole Nothing request is =
    let wrong : Raw whole ≡ Plain request = is in absurd cc
words_are_plain port call whole (Refused errno) request is =
    let wrong : Raw whole ≡ Plain request = is in absurd cc
words_are_plain port call whole (Asked asked) request is =
    by (bytes_eq whole (spelling port call asked)) refl is
  where
    by : (b : Bool) → bytes_eq whole (spelling port call asked) ≡ b →
        cond b (Plain asked) (Raw whole) ≡ Plain request →
        (Asked asked ≡ Asked request) × (whole ≡ spelling port call request)
    by true test same =
        let asks : asked ≡ request = ap (λ w. request_in w request) same in (
          ap (λ r. Asked r) asks,
          (bytes_eq-Decides whole (spelling port call asked)).0 test
              ∙ ap (spelling port call) asks,
        )
    by false test same = let wrong : Raw whole ≡ Plain request = same in absurd cc

pub plain_words : (port call : ℕ) (whole : List ℕ) (request : Request) →
    whole ≡ spelling port call request → words_of port call whole (Asked request) ≡ Plain request
plain_words port call whole request is =
    ap (λ b. cond b (Plain request) (Raw whole))
    ((bytes_eq-Decides whole (spelling port call request)).1 is)

-- a message whose own bytes are a request's spelling asks for it
pub asks_for_it : ((port call : ℕ) (request : Request) (behind : List ℕ) → port < 2 ^ 32 →
    call < 2 ^ 32 → FitsRequest request →
    let text = spelling port call request in
    Front (text ++ behind) (spelled port call request) (length text)) →
    ((port call : ℕ) (request : Request) → FitsRequest request →
    decoded (spelled port call request) ≡ Asked request) →
    ((bytes : List ℕ) (m : NetlinkMessage) (used : ℕ) → Front bytes m used →
    first_message bytes ≡ Some (m, used)) →
    (port call : ℕ) (request : Request) (m : NetlinkMessage) → port < 2 ^ 32 → call < 2 ^ 32 →
    FitsRequest request → IsOwn m → m.whole ≡ spelling port call request →
    decoded m ≡ Asked request
asks_for_it front request_law reading port call request m port_fits call_fits fits own is =
    let text = spelling port call request in
    let first = reading (text ++ []) (spelled port call request) (length text)
    (front port call request [] port_fits call_fits fits) in
    let known : first_message m.whole ≡ Some (spelled port call request, length text) =
    ap first_message (is ∙ sym (append-nil text)) ∙ first in
    let same : m ≡ spelled port call request =
    ap (λ (o : Option NetlinkMessage). unwrap_or o m)
    (sym own ∙ ap (option_map (λ (f : NetlinkMessage × ℕ). f.0)) known) in
    ap decoded same ∙ request_law port call request fits

-- ---- raw bytes
