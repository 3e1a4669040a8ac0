-- The one text of a request: uapi linux/netlink.h and linux/netfilter/nfnetlink_queue.h, and the
-- messages that libnetfilter_queue writes. The order of the parts is this project's.
use Rattle.std.specs.Prelude.{ℕ, ◌+◌, ◌<◌, ◌≤◌, ◌^◌, List, ◌++◌, length, Option}
use Rattle.std.specs.Prelude.{None, IfSome, option_map}
use Rattle.packet_entry.specs.Numbers.{longest_payload}
use Rattle.netlink_codec.specs.Messages.{NetlinkMessage, message_text, message_with}
use Rattle.netlink_codec.specs.Attributes.{Attribute, attributes_text}
use Rattle.netlink_codec.specs.Numbers.{ack_flag, request_flag}
use Rattle.nfqa_headers.specs.declared.verdict_header.Head.{Head}
use Rattle.nfqa_headers.specs.declared.params.Params.{Params}
use Rattle.nfqa_msgs.specs.declared.request.Request.{Request}
use Rattle.nfqa_msgs.specs.declared.request.Request.TheVariants.{Config, Verdict, Batch}
use Rattle.nfqa_headers.specs.Numbers.{verdict_number, config_number, batch_number, command_kind}
use Rattle.nfqa_headers.specs.Numbers.{params_kind, maxlen_kind, mask_kind, flags_kind, mark_kind}
use Rattle.nfqa_headers.specs.Numbers.{payload_kind, priority_kind, any_family}
use Rattle.nfqa_headers.specs.Kinds.{queue_kind}
use Rattle.nfqa_headers.specs.Headers.{queue_header, command_content, params_content}
use Rattle.nfqa_headers.specs.AttributeWriting.{head_part, part, value_part}

-- the parts of a request that are there, by ascending kind
abbrev pub parts_of : Request → List Attribute
parts_of (Config queue command params maxlen flags mask) =
    part command_kind (option_map command_content command)
    ++ part params_kind (option_map params_content params)
    ++ value_part maxlen_kind maxlen
    ++ value_part mask_kind mask
    ++ value_part flags_kind flags
parts_of (Verdict queue head mark payload priority) =
    head_part head
    ++ value_part mark_kind mark
    ++ part payload_kind payload
    ++ value_part priority_kind priority
parts_of (Batch queue head mark priority) =
    head_part head ++ value_part mark_kind mark ++ value_part priority_kind priority

abbrev pub number_for : Request → ℕ
number_for (Config queue command params maxlen flags mask) = config_number
number_for (Verdict queue head mark payload priority) = verdict_number
number_for (Batch queue head mark priority) = batch_number

-- a config request asks for an acknowledgement; the others don't
abbrev pub flags_for : Request → ℕ
flags_for (Config queue command params maxlen flags mask) = request_flag + ack_flag
flags_for (Verdict queue head mark payload priority) = request_flag
flags_for (Batch queue head mark priority) = request_flag

abbrev pub queue_for : Request → ℕ
queue_for (Config queue command params maxlen flags mask) = queue
queue_for (Verdict queue head mark payload priority) = queue
queue_for (Batch queue head mark priority) = queue

-- any family and the queue's number, and the parts
abbrev pub request_body : Request → List ℕ
request_body request =
    queue_header any_family (queue_for request) ++ attributes_text (parts_of request)

-- the text of a request: its call is the sequence
unfoldable pub spelling : ℕ → ℕ → Request → List ℕ
spelling port call request =
    message_text (queue_kind (number_for request)) (flags_for request) call port
    (request_body request)

-- the message that this text is
abbrev pub spelled : ℕ → ℕ → Request → NetlinkMessage
spelled port call request =
    message_with (queue_kind (number_for request)) (flags_for request) call port
    (request_body request)

-- each number of a request fits its field
pub record FitsHead (head : Head) : Type 0 where
  pub verdict : head.verdict < 2 ^ 32
  pub id : head.id < 2 ^ 32

pub record FitsParams (params : Params) : Type 0 where
  pub range : params.range < 2 ^ 32
  pub mode : params.mode < 2 ^ 8

pub record FitsConfig (queue : ℕ) (command : Option ℕ) (params : Option Params)
    (maxlen flags mask : Option ℕ) : Type 0 where
  pub queue_fits : queue < 2 ^ 16
  pub command_fits : IfSome command (λ n. n < 2 ^ 8)
  pub params_fit : IfSome params FitsParams
  pub maxlen_fits : IfSome maxlen (λ n. n < 2 ^ 32)
  pub flags_fit : IfSome flags (λ n. n < 2 ^ 32)
  pub mask_fits : IfSome mask (λ n. n < 2 ^ 32)

pub record FitsVerdict (queue : ℕ) (head : Option Head) (mark : Option ℕ)
    (payload : Option (List ℕ)) (priority : Option ℕ) : Type 0 where
  pub queue_fits : queue < 2 ^ 16
  pub head_fits : IfSome head FitsHead
  pub mark_fits : IfSome mark (λ n. n < 2 ^ 32)
  pub payload_fits : IfSome payload (λ bytes. length bytes ≤ longest_payload)
  pub priority_fits : IfSome priority (λ n. n < 2 ^ 32)

abbrev pub FitsRequest : Request → Type 0
FitsRequest (Config queue command params maxlen flags mask) =
    FitsConfig queue command params maxlen flags mask
FitsRequest (Verdict queue head mark payload priority) =
    FitsVerdict queue head mark payload priority
FitsRequest (Batch queue head mark priority) = FitsVerdict queue head mark None priority
