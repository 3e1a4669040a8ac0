-- A message is logged in words exactly where it is the one spelling of a request.
use Rattle.std.proofs.Common.{◌≡◌, ◌<◌, ◌^◌, ℕ, List, ◌++◌, length}
use Rattle.std.proofs.Common.{Option, Some, None, Bool, true, false}
use Rattle.std.proofs.Common.{refl, sym, ap, ◌∙◌}
use Rattle.std.specs.Prelude.{if◌then◌else◌}
use Rattle.std.specs.Str.{bytes_eq}
use Rattle.std.proofs.lemmas.Slice.Eq.{bytes_eq-Decides}
use Rattle.netlink_codec.specs.Messages.{NetlinkMessage, Front, first_message}
use Rattle.nfqa_msgs.specs.declared.request.Request.{Request}
use Rattle.nfqa_msgs.specs.declared.request.Decoded.{Decoded}
use Rattle.nfqa_msgs.specs.declared.request.Decoded.TheVariants.{Nothing, Refused, Asked}
use Rattle.nfqa_msgs.specs.RequestReading.{decoded}
use Rattle.nfqa_msgs.specs.RequestWriting.{spelling, spelled, FitsRequest}
use Rattle.histories.specs.declared.log.AskWords.TheVariants.{Plain, Raw}
use Rattle.packet_moves.specs.Messages.{words_of}

pub words_spell : (port call : ℕ) (whole : List ℕ) (d : Decoded) (request : Request) →
    words_of port call whole d ≡ Plain request → whole ≡ spelling port call request
words_spell port call whole Nothing request is = absurd (cc)
words_spell port call whole (Refused errno) request is = absurd (cc)
words_spell port call whole (Asked asked) request is =
    by_test (bytes_eq whole (spelling port call asked)) refl is
  where
    by_test : (same : Bool) → bytes_eq whole (spelling port call asked) ≡ same →
        (if same then Plain asked else Raw whole) ≡ Plain request →
        whole ≡ spelling port call request
    by_test true same is =
        let one : asked ≡ request = cc in
        (bytes_eq-Decides whole (spelling port call asked)).0 same
        ∙ ap (spelling port call) one
    by_test false same is = absurd (cc)

pub raw_is_whole : (port call : ℕ) (whole : List ℕ) (d : Decoded) (bytes : List ℕ) →
    words_of port call whole d ≡ Raw bytes → bytes ≡ whole
raw_is_whole port call whole Nothing bytes is = cc
raw_is_whole port call whole (Refused errno) bytes is = cc
raw_is_whole port call whole (Asked asked) bytes is =
    by_test (bytes_eq whole (spelling port call asked)) is
  where
    by_test : (same : Bool) → (if same then Plain asked else Raw whole) ≡ Raw bytes → bytes ≡ whole
    by_test true is = absurd (cc)
    by_test false is = cc

message_in : NetlinkMessage → Option (NetlinkMessage × ℕ) → NetlinkMessage
message_in m None = m
message_in m (Some found) = found.0

pub spelling_in_words :
    ((port call : ℕ) (request : Request) (behind : List ℕ) → port < 2 ^ 32 → call < 2 ^ 32 →
    FitsRequest request → Front (spelling port call request ++ behind)
    (spelled port call request) (length (spelling port call request))) →
    ((port call : ℕ) (request : Request) → FitsRequest request →
    decoded (spelled port call request) ≡ Asked request) →
    ((bytes : List ℕ) (message : NetlinkMessage) (used : ℕ) → Front bytes message used →
    first_message bytes ≡ Some (message, used)) →
    (port call : ℕ) (request : Request) (bytes : List ℕ) (m : NetlinkMessage) (used : ℕ) →
    port < 2 ^ 32 → call < 2 ^ 32 → FitsRequest request → Front bytes m used →
    m.whole ≡ spelling port call request →
    words_of port call m.whole (decoded m) ≡ Plain request
unfolding message_in
spelling_in_words front request_of read port call request bytes m used p c fits is same =
    ap (words_of port call m.whole) asked
    ∙ ap (λ (b : Bool). if b then Plain request else Raw m.whole)
    ((bytes_eq-Decides m.whole (spelling port call request)).1 same)
  where
    text : bytes ≡ spelling port call request ++ is.behind.0
    text = is.behind.1 ∙ ap (λ (l : List ℕ). l ++ is.behind.0) same

    one : m ≡ spelled port call request
    one =
        ap (message_in m)
        (sym (read bytes m used is) ∙ ap first_message text
        ∙ read _ _ _ (front port call request is.behind.0 p c fits))

    asked : decoded m ≡ Asked request
    asked = ap decoded one ∙ request_of port call request fits
