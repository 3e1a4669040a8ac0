-- A bridge for proofs: the reader of notices as a function. It reads what the attributes of a
-- message tell, each where a notice has it. A message that is no notice is read as well, and then
-- isn't the text of what is read. What a notice means stands in NoticeWriting and NoticeMeaning.
use Rattle.std.specs.Prelude.{ℕ, nat_lt, if◌then◌else◌, List, [], length, Option, Some, None}
use Rattle.std.specs.Prelude.{unwrap_or}
use Rattle.std.specs.Option.{option_and_then}
use Rattle.netlink_codec.specs.Messages.{NetlinkMessage, first_message}
use Rattle.netlink_codec.specs.Attributes.{Attribute}
use Rattle.netlink_codec.specs.Fields.{Field}
use Rattle.nfqa_headers.specs.Numbers.{packet_header_kind, mark_kind, timestamp_kind}
use Rattle.nfqa_headers.specs.Numbers.{hardware_address_kind, payload_kind, full_length_kind}
use Rattle.nfqa_headers.specs.Numbers.{priority_kind}
use Rattle.nfqa_headers.specs.Headers.{value_field, packet_id_field, packet_protocol_field}
use Rattle.nfqa_headers.specs.Headers.{seconds_field, micros_field, low_half, queue_in}
use Rattle.nfqa_headers.specs.Headers.{queue_header_length, value_length, packet_header_length}
use Rattle.nfqa_headers.specs.Headers.{timestamp_length}
use Rattle.nfqa_headers.specs.AttributeReading.{last_content, nearest_protocol, source_of, value_of}
use Rattle.nfqa_msgs.specs.RequestReading.{row_in}
use Rattle.nfqa_msgs.specs.NoticeWriting.{Told}

-- the number in this field of the content of this kind, where that has at least n bytes; else 0
abbrev pub value_at : ℕ → ℕ → Field → List Attribute → ℕ
value_at kind n f row = value_of n f (last_content kind row)

abbrev pub protocol_at : List Attribute → ℕ
protocol_at row =
    nearest_protocol (value_at packet_header_kind packet_header_length packet_protocol_field row)

abbrev pub source_at : List Attribute → Option (List ℕ)
source_at row = source_of (last_content hardware_address_kind row)

abbrev pub payload_at : List Attribute → List ℕ
payload_at row = unwrap_or (last_content payload_kind row) []

-- a length above the payload's
abbrev pub above : ℕ → ℕ → Option ℕ
above length n = if nat_lt length n then Some n else None

abbrev pub cut_at : List Attribute → Option ℕ
cut_at row =
    above (length (payload_at row)) (value_at full_length_kind value_length value_field row)

unfoldable pub told_in : ℕ → List Attribute → Told
told_in queue row = record {
  queue = queue;
  id = value_at packet_header_kind packet_header_length packet_id_field row;
  protocol = protocol_at row;
  mark = value_at mark_kind value_length value_field row;
  priority = value_at priority_kind value_length value_field row;
  source = source_at row;
  seconds = value_at timestamp_kind timestamp_length (low_half seconds_field) row;
  micros = value_at timestamp_kind timestamp_length (low_half micros_field) row;
  cut_from = cut_at row;
  payload = payload_at row;
}

abbrev pub told_by_message : NetlinkMessage × ℕ → Option Told
told_by_message (m, used) =
    if nat_lt (length m.body) queue_header_length then None
    else Some (told_in (queue_in m.body) (row_in m.body))

unfoldable pub told_by : List ℕ → Option Told
told_by bytes = option_and_then told_by_message (first_message bytes)
