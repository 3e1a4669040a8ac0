-- An ask has messages, or has none, whatever number its first one has.
use Rattle.std.proofs.Common.{◌≡◌, ◌∙◌, ℕ, suc, ◌<◌, ◌≤◌, ◌^◌, ◌+◌, List, [], ◌∷◌, ◌++◌, sym}
use Rattle.std.proofs.Common.{ap, Some, length, arith, append-nil}
use Rattle.std.specs.Prelude.{min}
use Rattle.std.specs.List.{AllByRecursion}
use Rattle.packet_entry.specs.Numbers.{longest_payload}
use Rattle.netlink_codec.specs.Messages.{NetlinkMessage, FitsHeader, first_message, message_text}
use Rattle.netlink_codec.specs.Messages.{message_with, pad}
use Rattle.netlink_codec.specs.Numbers.{message_header_length}
use Rattle.nfqa_headers.specs.Kinds.{queue_kind}
use Rattle.nfqa_msgs.specs.declared.request.Request.{Request}
use Rattle.nfqa_msgs.specs.declared.request.Request.TheVariants.{Config, Verdict, Batch}
use Rattle.nfqa_msgs.specs.RequestWriting.{number_for, flags_for, request_body, spelling}
use Rattle.histories.specs.declared.log.AskWords.{AskWords}
use Rattle.histories.specs.declared.log.AskWords.TheVariants.{Plain, Raw}
use Rattle.script_lines.specs.Limits.{IsAsk, IsWords}
use Rattle.script_lines.specs.declared.ask.Ask.{Ask}
use Rattle.script_lines.specs.declared.ask.Ask.TheVariants.{Words, Close}
use Rattle.run_parts.specs.Datagrams.{bytes_of, cut_in, messages_in, with_those_behind}
use Rattle.run_parts.specs.Log.{Still, all_due}
use Rattle.log_audit.specs.Walking.{messages_for}
use Rattle.log_audit.proofs.DueSettlement.{IsEven}

-- what laws of lower crates say
pub record Laws : Type 0 where
  pub reading : (kind flags sequence port : ℕ) (body behind : List ℕ) →
      FitsHeader (message_with kind flags sequence port body) →
      let text = message_text kind flags sequence port body in
      first_message (text ++ behind)
      ≡ Some (
        message_with kind flags sequence port body,
        min (pad (length text)) (length (text ++ behind)),
      )
  pub size : (kind flags sequence port : ℕ) (body : List ℕ) →
      length (message_text kind flags sequence port body) ≡ message_header_length + length body
  pub short : (port call : ℕ) (words : AskWords) → IsWords words →
      length (bytes_of port call words) ≤ longest_payload

kind_fits : (request : Request) → queue_kind (number_for request) < 2 ^ 16
kind_fits (Config queue command params maxlen flags mask) = omega arith
kind_fits (Verdict queue head mark payload priority) = omega arith
kind_fits (Batch queue head mark priority) = omega arith

flags_fit : (request : Request) → flags_for request < 2 ^ 16
flags_fit (Config queue command params maxlen flags mask) = omega arith
flags_fit (Verdict queue head mark payload priority) = omega arith
flags_fit (Batch queue head mark priority) = omega arith

some_message : (n : ℕ) (bytes : List ℕ) (m : NetlinkMessage) (used : ℕ) →
    first_message bytes ≡ Some (m, used) → length bytes ≡ suc n → messages_in bytes ≡ [] → ⊥
some_message n bytes m used first is none =
    let some : with_those_behind (cut_in n) bytes (Some (m, used)) ≡ [] =
    ap (with_those_behind (cut_in n) bytes) (sym first) ∙ ap (λ k. cut_in k bytes) (sym is)
    ∙ none in
    cc

-- a request's text is a message
text_is_message : Laws → (port call : ℕ) (request : Request) → port < 2 ^ 32 → call < 2 ^ 32 →
    IsWords (Plain request) → messages_for port call (Plain request) ≡ [] → ⊥
unfolding spelling
text_is_message laws port call request port_fits call_fits is none =
    let kind = queue_kind (number_for request) in
    let body = request_body request in
    let size = laws.size kind (flags_for request) call port body in
    let short = laws.short port call (Plain request) is in
    let first = laws.reading kind (flags_for request) call port body [] (record {
      kind = kind_fits request;
      flags = flags_fit request;
      sequence = call_fits;
      port = port_fits;
      length = omega (arith, size, short);
    }) in
    some_message (15 + length body) (message_text kind (flags_for request) call port body) _ _
    (ap first_message (sym (append-nil (message_text kind (flags_for request) call port body)))
    ∙ first) (size ∙ sixteen (length body)) none
  where
    sixteen : (n : ℕ) → message_header_length + n ≡ suc (15 + n)
    sixteen n = omega arith

even_words : Laws → (port : ℕ) (words : AskWords) → port < 2 ^ 32 → IsWords words →
    IsEven port (Still (Words words))
even_words laws port (Plain request) port_fits is =
    λ one other one_fits other_fits none.
    absurd (text_is_message laws port one request port_fits one_fits is none)
even_words laws port (Raw bytes) port_fits is = λ one other one_fits other_fits none. none

pub all_even : Laws → (port : ℕ) (asks : List Ask) → port < 2 ^ 32 → AllByRecursion IsAsk asks →
    AllByRecursion (IsEven port) (all_due asks)
all_even laws port [] port_fits are = tt
all_even laws port (Words words ∷ asks) port_fits are =
    (even_words laws port words port_fits are.0, all_even laws port asks port_fits are.1)
all_even laws port (Close ∷ asks) port_fits are = (tt, all_even laws port asks port_fits are.1)
