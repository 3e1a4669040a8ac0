-- What a message asks: uapi linux/netfilter/nfnetlink_queue.h, and the kernel's
-- `nfnetlink_rcv_msg`, `nfqnl_recv_config`, `nfqnl_recv_verdict` and `nfqnl_recv_verdict_batch`.
-- A short attribute is ERANGE by `validate_nla` of lib/nlattr.c.
use Rattle.std.specs.Prelude.{◌≤◌, ℕ, Bool, true, false, not, ◌||◌, ◌==◌, nat_lt, if◌then◌else◌}
use Rattle.std.specs.Prelude.{List, length, drop, Some, None, IfSome, option_map, bit_and}
use Rattle.std.specs.List.{list_any}
use Rattle.packet_entry.specs.Numbers.{longest_payload}
use Rattle.netlink_codec.specs.Messages.{NetlinkMessage}
use Rattle.netlink_codec.specs.Attributes.{Attribute, attributes}
use Rattle.netlink_codec.specs.Numbers.{request_flag, least_kind}
use Rattle.nfqa_msgs.specs.declared.request.Request.{Request}
use Rattle.nfqa_msgs.specs.declared.request.Request.TheVariants.{Config, Verdict, Batch}
use Rattle.nfqa_msgs.specs.declared.request.Decoded.{Decoded}
use Rattle.nfqa_msgs.specs.declared.request.Decoded.TheVariants.{Nothing, Refused, Asked}
use Rattle.nfqa_headers.specs.Numbers.{queue_subsystem, notice_number, verdict_number}
use Rattle.nfqa_headers.specs.Numbers.{config_number, batch_number, command_kind, params_kind}
use Rattle.nfqa_headers.specs.Numbers.{maxlen_kind, mask_kind, flags_kind, mark_kind, payload_kind}
use Rattle.nfqa_headers.specs.Numbers.{priority_kind}
use Rattle.nfqa_msgs.specs.Numbers.{einval, erange, eopnotsupp}
use Rattle.nfqa_headers.specs.Kinds.{subsystem_of, number_of}
use Rattle.nfqa_headers.specs.Headers.{queue_in, command_in, params_in, queue_header_length}
use Rattle.nfqa_headers.specs.AttributeReading.{is_short, last_content, last_head, last_value}

-- the request of a message of this number for this queue, with this row of attributes
abbrev pub config_in : ℕ → List Attribute → Request
config_in queue row = Config queue
    (option_map command_in (last_content command_kind row))
    (option_map params_in (last_content params_kind row))
    (last_value maxlen_kind row)
    (last_value flags_kind row)
    (last_value mask_kind row)

abbrev pub verdict_in : ℕ → List Attribute → Request
verdict_in queue row = Verdict queue
    (last_head row)
    (last_value mark_kind row)
    (last_content payload_kind row)
    (last_value priority_kind row)

abbrev pub batch_in : ℕ → List Attribute → Request
batch_in queue row =
    Batch queue (last_head row) (last_value mark_kind row) (last_value priority_kind row)

unfoldable pub request_in : ℕ → ℕ → List Attribute → Request
request_in number queue row =
    if number == config_number then config_in queue row
    else if number == verdict_number then verdict_in queue row
    else batch_in queue row

-- the attributes in a message's body
abbrev pub row_in : List ℕ → List Attribute
row_in body = attributes (drop queue_header_length body)

-- the message is of no number of the subsystem of queues
abbrev pub is_foreign : NetlinkMessage → Bool
is_foreign m =
    not (subsystem_of m.kind == queue_subsystem) || nat_lt batch_number (number_of m.kind)

-- what a message is decoded to: the first line that applies decides
unfoldable pub decoded : NetlinkMessage → Decoded
decoded m =
    if bit_and m.flags request_flag == 0 then Nothing
    else if nat_lt m.kind least_kind then Nothing
    else if nat_lt (length m.body) queue_header_length then Nothing
    else if is_foreign m then Refused einval
    else if number_of m.kind == notice_number then Refused eopnotsupp
    else if list_any (is_short (number_of m.kind)) (row_in m.body) then Refused erange
    else Asked (request_in (number_of m.kind) (queue_in m.body) (row_in m.body))

-- a payload has no more bytes than one attribute holds
abbrev pub PayloadFits : Request → Type 0
PayloadFits (Config queue command params maxlen flags mask) = Unit {0}
PayloadFits (Verdict queue head mark payload priority) =
    IfSome payload (λ bytes. length bytes ≤ longest_payload)
PayloadFits (Batch queue head mark priority) = Unit {0}

abbrev pub AskedFits : Decoded → Type 0
AskedFits Nothing = Unit {0}
AskedFits (Refused errno) = Unit {0}
AskedFits (Asked request) = PayloadFits request

-- the request has a payload for a packet, which may be empty
abbrev pub has_payload : Request → Bool
has_payload (Config queue command params maxlen flags mask) = false
has_payload (Verdict queue head mark None priority) = false
has_payload (Verdict queue head mark (Some bytes) priority) = true
has_payload (Batch queue head mark priority) = false

abbrev pub asks_with_payload : Decoded → Bool
asks_with_payload Nothing = false
asks_with_payload (Refused errno) = false
asks_with_payload (Asked request) = has_payload request
